-- The cause that is tried before another.
use Rattle.std.proofs.Common.{◌≡◌, ◌<◌, ◌≤◌, ℕ, List, [], ◌∷◌, ◌++◌, Bool, true, false, nat_lt, Option, None, Some, Ok, Err, refl, sym, ap, subst, ◌∙◌, arith, append_assoc}
use Rattle.std.proofs.lemmas.Bool.{lt-ltb}
use Rattle.cs_script.specs.declared.fault.LineCause.{LineCause}
use Rattle.cs_script.specs.declared.fault.LineCause.TheVariants.{NotJson, Member, Stamp, Order, Syntax, Schema, NoTable, NoColumn, Value, TooManyAtStamp, Txn, Layout, NotBuilt, Memory}
use Rattle.cs_script.specs.Readings.{Reading, both, and_more, behind, earlier, rank, not_memory, is_memory}

by_rank : (e : LineCause) → 0 < rank e → not_memory e
by_rank Memory h = absurd (omega (arith, h))
by_rank NotJson h = tt
by_rank (Member name) h = tt
by_rank (Stamp fault) h = tt
by_rank Order h = tt
by_rank (Syntax fault) h = tt
by_rank (Schema fault) h = tt
by_rank (NoTable name) h = tt
by_rank (NoColumn name) h = tt
by_rank (Value fault) h = tt
by_rank TooManyAtStamp h = tt
by_rank (Txn fault) h = tt
by_rank (Layout fault) h = tt
by_rank NotBuilt h = tt

ranked : (e : LineCause) → not_memory e → 0 < rank e
ranked Memory h = absurd h
ranked NotJson h = omega arith
ranked (Member name) h = omega arith
ranked (Stamp fault) h = omega arith
ranked Order h = omega arith
ranked (Syntax fault) h = omega arith
ranked (Schema fault) h = omega arith
ranked (NoTable name) h = omega arith
ranked (NoColumn name) h = omega arith
ranked (Value fault) h = omega arith
ranked TooManyAtStamp h = omega arith
ranked (Txn fault) h = omega arith
ranked (Layout fault) h = omega arith
ranked NotBuilt h = omega arith

pub another : (e : LineCause) → is_memory e ≡ false → not_memory e
another Memory h = cc
another NotJson h = tt
another (Member name) h = tt
another (Stamp fault) h = tt
another Order h = tt
another (Syntax fault) h = tt
another (Schema fault) h = tt
another (NoTable name) h = tt
another (NoColumn name) h = tt
another (Value fault) h = tt
another TooManyAtStamp h = tt
another (Txn fault) h = tt
another (Layout fault) h = tt
another NotBuilt h = tt

lt_true : (a b : ℕ) → nat_lt a b ≡ true → a < b
lt_true a b h = grind (arith, h)

lt_false : (a b : ℕ) → nat_lt a b ≡ false → b ≤ a
lt_false a b h = grind (arith, h)

not_lt : (a b : ℕ) → b ≤ a → nat_lt a b ≡ false
not_lt a b h = grind (arith, h)

-- the second is tried before the first
pub second : (e f : LineCause) → nat_lt (rank f) (rank e) ≡ true → earlier e f ≡ f
unfolding earlier
second e f h = rw h refl

-- it is not
pub first : (e f : LineCause) → nat_lt (rank f) (rank e) ≡ false → earlier e f ≡ e
unfolding earlier
first e f h = rw h refl

-- want of memory is tried before all others
pub neither : (e f : LineCause) → not_memory (earlier e f) → not_memory e × not_memory f
neither e f h = by (nat_lt (rank f) (rank e)) refl
  where
    by : (b : Bool) → nat_lt (rank f) (rank e) ≡ b → not_memory e × not_memory f
    by true t =
        let last : not_memory f = subst not_memory (second e f t) h in
        (by_rank e (omega (arith, lt_true (rank f) (rank e) t, ranked f last)), last)
    by false t =
        let one : not_memory e = subst not_memory (first e f t) h in
        (one, by_rank f (omega (arith, lt_false (rank f) (rank e) t, ranked e one)))

-- two refusals together
pub both_refused : {A B : Type 0} (a : Reading A) (b : Reading B) (e f : LineCause) → (not_memory e → a ≡ Err e) → (not_memory f → b ≡ Err f)
    → not_memory (earlier e f) → both a b ≡ Err (earlier e f)
both_refused a b e f is_a is_b h =
    let (one, other) = neither e f h in
    rw (is_a one, is_b other) refl

-- three in a row
pub earlier_assoc : (e f g : LineCause) → earlier (earlier e f) g ≡ earlier e (earlier f g)
earlier_assoc e f g = by (nat_lt (rank f) (rank e)) refl (nat_lt (rank g) (rank f)) refl
  where
    by : (b : Bool) → nat_lt (rank f) (rank e) ≡ b → (c : Bool) → nat_lt (rank g) (rank f) ≡ c → earlier (earlier e f) g ≡ earlier e (earlier f g)
    by true t true u =
        let far : rank g < rank e = omega (arith, lt_true (rank f) (rank e) t, lt_true (rank g) (rank f) u) in
        rw (second e f t, second f g u, second e g (lt-ltb (rank g) (rank e) far)) refl
    by true t false u = rw (first f g u, second e f t, first f g u) refl
    by false t true u = rw (first e f t, second f g u) refl
    by false t false u =
        let far : rank e ≤ rank g = omega (arith, lt_false (rank f) (rank e) t, lt_false (rank g) (rank f) u) in
        rw (first f g u, first e f t, first e g (not_lt (rank g) (rank e) far)) refl

-- ---- what is gathered

more_behind : {A : Type 0} (cause : Option LineCause) (before : List A) (a : A) (rest : Reading (List A)) → cause ≡ None
    → behind None (before ++ a ∷ []) rest ≡ behind cause before (and_more (Ok a) rest)
more_behind cause before a (Ok more) none = rw none (ap Ok (append_assoc before (a ∷ []) more))
more_behind cause before a (Err f) none = rw none refl

-- one element more
pub one_more : {A : Type 0} (before : List A) (a : A) (r : Reading A) (rest : Reading (List A)) → r ≡ Ok a
    → behind None (before ++ a ∷ []) rest ≡ behind None before (and_more r rest)
one_more before a r rest e = more_behind None before a rest refl ∙ ap (λ x. behind None before (and_more x rest)) (sym e)

-- an element behind a cause
pub still_refused : {A : Type 0} (before : List A) (cause : LineCause) (a : A) (r : Reading A) (rest : Reading (List A)) → r ≡ Ok a
    → behind (Some cause) before rest ≡ behind (Some cause) before (and_more r rest)
still_refused before cause a r (Ok more) e = rw e refl
still_refused before cause a r (Err f) e = rw e refl

-- the first cause
pub now_refused : {A : Type 0} (before : List A) (f : LineCause) (r : Reading A) (rest : Reading (List A)) → r ≡ Err f
    → behind (Some f) before rest ≡ behind None before (and_more r rest)
now_refused before f r (Ok more) e = rw e refl
now_refused before f r (Err g) e = rw e refl

-- a cause behind a cause
pub refused_again : {A : Type 0} (before : List A) (cause f : LineCause) (r : Reading A) (rest : Reading (List A)) → r ≡ Err f
    → behind (Some (earlier cause f)) before rest ≡ behind (Some cause) before (and_more r rest)
refused_again before cause f r (Ok more) e = rw e refl
refused_again before cause f r (Err g) e = rw e (ap Err (earlier_assoc cause f g))

-- all that was gathered
pub whole : {A : Type 0} (r : Reading (List A)) → behind None [] r ≡ r
whole (Ok more) = refl
whole (Err f) = refl
