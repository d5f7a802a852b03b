-- Connections that are given back one behind the other.
use Rattle.std.proofs.Common.{◌≡◌, ◌≤◌, ◌+◌, ◌*◌, ℕ, suc, List, [], ◌∷◌, ◌++◌, length, min, Option, None, Some, refl, sym, ap, subst, ◌∙◌, append_assoc, append-nil, length-append, arith}
use Rattle.cs_script.specs.Database.{Database}
use Rattle.cs_connection.specs.Given.{GivenBack, KeepsBack, GrowsByOne}
use Rattle.cs_serve.specs.Served.{IsGivenRightly}
use Rattle.cs_serve.specs.Accepted.{moment_at, GivesOne, AreGivenRightly, GrowsByAll, GivesAll}

pub keeps_grows : (a b c : Option (List GivenBack)) (given : GivenBack) → KeepsBack a b → GrowsByOne b c given → GrowsByOne a c given
keeps_grows None b c given k g = tt
keeps_grows (Some a) None c given k g = absurd k
keeps_grows (Some a) (Some b) None given k g = absurd g
keeps_grows (Some a) (Some b) (Some c) given k g = g ∙ ap (λ (t : List GivenBack). t ++ given ∷ []) k

none_more : (x : Option (List GivenBack)) → GrowsByAll x x []
none_more None = tt
none_more (Some xs) = sym (append-nil xs)

one_more : (a b c : Option (List GivenBack)) (all : List GivenBack) (given : GivenBack) → GrowsByAll a b all → GrowsByOne b c given → GrowsByAll a c (all ++ given ∷ [])
one_more None b c all given x y = tt
one_more (Some a) None c all given x y = absurd x
one_more (Some a) (Some b) None all given x y = absurd y
one_more (Some a) (Some b) (Some c) all given x y = y ∙ ap (λ (t : List GivenBack). t ++ given ∷ []) x ∙ append_assoc a all (given ∷ [])

then_kept : (a b c : Option (List GivenBack)) (all : List GivenBack) → GrowsByAll a b all → KeepsBack b c → GrowsByAll a c all
then_kept None b c all x y = tt
then_kept (Some a) None c all x y = absurd x
then_kept (Some a) (Some b) None all x y = absurd y
then_kept (Some a) (Some b) (Some c) all x y = y ∙ x

right_more : (db : Database) (moment step_us k : ℕ) (all : List GivenBack) (given : GivenBack) → AreGivenRightly db moment step_us k all → IsGivenRightly db (moment_at moment step_us (k + length all)) given
    → AreGivenRightly db moment step_us k (all ++ given ∷ [])
right_more db moment step_us k [] given all_right right = (subst (λ n. IsGivenRightly db (moment_at moment step_us n) given) (omega arith) right, tt)
right_more db moment step_us k (x ∷ xs) given all_right right =
    (all_right.0, right_more db moment step_us (suc k) xs given all_right.1 (subst (λ n. IsGivenRightly db (moment_at moment step_us n) given) (omega arith) right))

-- none as yet
pub gives_none : (db : Database) (moment step_us : ℕ) (x : Option (List GivenBack)) → GivesAll db moment step_us 0 x x
gives_none db moment step_us x = record { given = []; grows = none_more x; right = tt; counted = refl }

-- one more
pub gives_more : (db : Database) (moment step_us n at : ℕ) (a b c : Option (List GivenBack)) → at ≡ moment_at moment step_us n → GivesAll db moment step_us n a b → GivesOne db at b c → GivesAll db moment step_us (n + 1) a c
gives_more db moment step_us n at a b c at_is all one = record {
  given = all.given ++ one.given ∷ [];
  grows = one_more a b c all.given one.given all.grows one.grows;
  right = right_more db moment step_us 0 all.given one.given all.right
      (subst (λ (t : ℕ). IsGivenRightly db t one.given) (at_is ∙ ap (moment_at moment step_us) (sym all.counted ∙ omega arith)) one.right);
  counted = length-append all.given (one.given ∷ []) ∙ ap (λ k. k + 1) all.counted;
}

-- and none more
pub gives_kept : (db : Database) (moment step_us n : ℕ) (a b c : Option (List GivenBack)) → GivesAll db moment step_us n a b → KeepsBack b c → GivesAll db moment step_us n a c
gives_kept db moment step_us n a b c all kept = record { given = all.given; grows = then_kept a b c all.given all.grows kept; right = all.right; counted = all.counted }

-- ---- moments

pub first_moment : (moment step_us : ℕ) → moment ≤ 253402300799999999 → moment ≡ moment_at moment step_us 0
first_moment moment step_us le = omega (arith, le)

times_more : (n s : ℕ) → (n + 1) * s ≡ n * s + s
times_more n s = grind arith

pub next_moment : (moment step_us n at next : ℕ) → at ≡ moment_at moment step_us n → next ≡ min (at + step_us) 253402300799999999 → next ≡ moment_at moment step_us (n + 1)
next_moment moment step_us n at next at_is next_is = omega (arith, at_is, next_is, times_more n step_us)
