-- A transaction without a fault keeps the rules of a history.
use Rattle.std.proofs.Common.{◌≡◌, ◌∙◌, sym, ap, subst, refl, ℕ, ◌≤◌, List, [], ◌∷◌, ◌++◌, Some, None, cond, false, true, Bool, is_some, true≢false, append_assoc, append-nil, arith, rules, ◌==◌, ◌&&◌, nat_lt}
use Rattle.std.specs.declared.option.Option.{Option}
use Rattle.std.specs.List.{AllByRecursion}
use Rattle.cs_types.specs.declared.change.RowName.{RowName}
use Rattle.cs_types.specs.declared.change.Kind.{Kind}
use Rattle.cs_types.specs.declared.change.Kind.TheVariants.{Insert, Update, Delete}
use Rattle.cs_schema.specs.declared.types.Table.{Table}
use Rattle.cs_txn.specs.declared.txn.Write.{Write}
use Rattle.cs_txn.specs.declared.txn.Txn.{Txn}
use Rattle.cs_txn.specs.declared.txn.Modification.{Modification}
use Rattle.cs_txn.specs.declared.fault.TxnFault.TheVariants.{RowTwice, SharedStampRow, IdUsed, StampBack}
use Rattle.std.specs.Option.{option_or}
use Rattle.cs_types.specs.Row.{same_row}
use Rattle.cs_types.specs.declared.cells.Cell.{Cell}
use Rattle.cs_txn.specs.Left.{free_columns_of, row_cells, cells_or_none}
use Rattle.cs_txn.proofs.Leaves.{leaves, as_it_was}
use Rattle.cs_txn.specs.History.{AsItWas, last_of, left_of, state_before, is_used, stamp_behind, last_stamp, modification_of, modifications_from, modifications_of, wrote_at, id_behind, tag_behind, IsAllowed, Follows, EachFollows, IsHistory}
use Rattle.cs_txn.specs.Faults.{is_named, twice_behind, there_if, absent_if, there_fault, absent_fault, shared_if, shared_fault, id_fault, back_fault, row_fault, write_fault}
use Rattle.cs_types.specs.Firsts.{first_of}
use Rattle.cs_txn.specs.declared.test.Test.TheVariants.{Values, Set, Tables, Columns}
use Rattle.cs_txn.specs.Columns.{fault_by}
use Rattle.cs_txn.proofs.Checked.{neither, not_some, Unrefused, AllUnrefused, each_unrefused, sets_free}
use Rattle.cs_txn.proofs.Adding.{stamp_append, stamp_same}

-- alternatives

pub not_first : {A : Type 0} (b : Bool) (x : A) (o : Option A) → cond b (Some x) o ≡ None → (b ≡ false) × (o ≡ None)
not_first true x o e = absurd (true≢false (ap is_some e))
not_first false x o e = (refl, e)

-- the last modification of a row

last_append : (row : RowName) (xs ys : List Modification) → last_of row (xs ++ ys) ≡ option_or (last_of row ys) (last_of row xs)
last_append row [] ys = or_none (last_of row ys)
  where
    or_none : (o : Option Modification) → o ≡ option_or o None
    or_none None = refl
    or_none (Some x) = refl
last_append row (x ∷ xs) ys =
    ap (λ o. option_or o (cond (same_row x.row row) (Some x) None)) (last_append row xs ys)
    ∙ assoc (last_of row ys) (last_of row xs) (cond (same_row x.row row) (Some x) None)
  where
    assoc : (a b c : Option Modification) → option_or (option_or a b) c ≡ option_or a (option_or b c)
    assoc None b c = refl
    assoc (Some x) b c = refl

last_unnamed : (tables : List Table) (row : RowName) (base : List Modification) (txn : Txn) (ws : List Write) → is_named row ws ≡ false → last_of row (modifications_from tables base txn ws) ≡ None
last_unnamed tables row base txn [] e = refl
last_unnamed tables row base txn (w ∷ ws) e = at (same_row w.row row) (is_named row ws) e (last_unnamed tables row base txn ws)
  where
    at : (b n : Bool) → cond b true n ≡ false → (n ≡ false → last_of row (modifications_from tables base txn ws) ≡ None) → option_or (last_of row (modifications_from tables base txn ws)) (cond b (Some (modification_of tables base txn w)) None) ≡ None
    at true n e h = absurd (true≢false e)
    at false n e h = ap (λ o. option_or o None) (h e)

pub last_kept : (tables : List Table) (row : RowName) (ms : List Modification) (txn : Txn) (ws : List Write) → is_named row ws ≡ false → last_of row (ms ++ modifications_from tables ms txn ws) ≡ last_of row ms
last_kept tables row ms txn ws e = last_append row ms (modifications_from tables ms txn ws) ∙ ap (λ o. option_or o (last_of row ms)) (last_unnamed tables row ms txn ws e)

-- what was written at a stamp

wrote_append : (s : ℕ) (row : RowName) (xs ys : List Modification) → wrote_at s row (xs ++ ys) ≡ cond (wrote_at s row xs) true (wrote_at s row ys)
wrote_append s row [] ys = refl
wrote_append s row (x ∷ xs) ys =
    ap (cond ((x.stamp == s) && same_row x.row row) true) (wrote_append s row xs ys)
    ∙ elim ((x.stamp == s) && same_row x.row row) as (λ b. cond b true (cond (wrote_at s row xs) true (wrote_at s row ys)) ≡ cond (cond b true (wrote_at s row xs)) true (wrote_at s row ys)) [ true ↦ refl | false ↦ refl ]

same_number : (n : ℕ) → (n == n) ≡ true
same_number n = search rules

wrote_unnamed : (tables : List Table) (row : RowName) (base : List Modification) (txn : Txn) (ws : List Write) → is_named row ws ≡ false → wrote_at txn.stamp row (modifications_from tables base txn ws) ≡ false
wrote_unnamed tables row base txn [] e = refl
wrote_unnamed tables row base txn (w ∷ ws) e = at (txn.stamp == txn.stamp) (same_row w.row row) (is_named row ws) e (wrote_unnamed tables row base txn ws)
  where
    at : (c b n : Bool) → cond b true n ≡ false → (n ≡ false → wrote_at txn.stamp row (modifications_from tables base txn ws) ≡ false) → cond (c && b) true (wrote_at txn.stamp row (modifications_from tables base txn ws)) ≡ false
    at c true n e h = absurd (true≢false e)
    at true false n e h = h e
    at false false n e h = h e

-- stamps that do not fall

abbrev Rises : ℕ → List Modification → Type 0
Rises s [] = Unit {0}
Rises s (m ∷ ms) = (s ≤ m.stamp) × Rises m.stamp ms

rises_from_rules : (s : ℕ) (earlier ms : List Modification) → stamp_behind 0 earlier ≡ s → EachFollows earlier ms → Rises s ms
rises_from_rules s earlier [] e h = tt
rises_from_rules s earlier (m ∷ ms) e h =
    (subst (λ n. n ≤ m.stamp) e h.0.stamp, rises_from_rules m.stamp (earlier ++ m ∷ []) ms (stamp_append 0 earlier (m ∷ [])) h.1)

first_le_last : (s : ℕ) (ms : List Modification) → Rises s ms → s ≤ stamp_behind s ms
first_le_last s [] h = omega arith
first_le_last s (m ∷ ms) h = let i = first_le_last m.stamp ms h.1 in let j = h.0 in omega (arith, i, j)

-- where all stamps from here on are one, the last modification has it
all_alike : (s : ℕ) (row : RowName) (ms : List Modification) (n : Modification) → Rises s ms → stamp_behind s ms ≤ s → last_of row ms ≡ Some n → n.stamp ≡ s
all_alike s row [] n h k e = absurd (true≢false (sym (ap is_some e)))
all_alike s row (m ∷ ms) n h k e = at (last_of row ms) (same_row m.row row) refl (all_alike m.stamp row ms n h.1 (let j = level in omega (arith, j, k))) e
  where
    level : m.stamp ≡ s
    level = let i = first_le_last m.stamp ms h.1 in let j = h.0 in omega (arith, i, j, k)

    at : (o : Option Modification) (b : Bool) → last_of row ms ≡ o → (last_of row ms ≡ Some n → n.stamp ≡ m.stamp) → option_or o (cond b (Some m) None) ≡ Some n → n.stamp ≡ s
    at None true f r e = ap (λ x. x.stamp) (sym (some_same e)) ∙ level
      where
        some_same : Some m ≡ Some n → m ≡ n
        some_same p = search rules
    at None false f r e = absurd (true≢false (sym (ap is_some e)))
    at (Some x) b f r e = r (f ∙ e) ∙ level

is_equal : (a b : ℕ) → (a == b) ≡ true → a ≡ b
is_equal a b e = search rules

wrote_last : (a s : ℕ) (row : RowName) (ms : List Modification) → Rises a ms → stamp_behind a ms ≤ s → shared_if s (last_of row ms) ≡ None → wrote_at s row ms ≡ false
wrote_last a s row [] h k e = refl
wrote_last a s row (m ∷ ms) h k e = at (last_of row ms) (m.stamp == s) (same_row m.row row) refl refl (wrote_last m.stamp s row ms h.1 k) e
  where
    at : (o : Option Modification) (c b : Bool) → last_of row ms ≡ o → (m.stamp == s) ≡ c → (shared_if s (last_of row ms) ≡ None → wrote_at s row ms ≡ false) → shared_if s (option_or o (cond b (Some m) None)) ≡ None → cond (c && b) true (wrote_at s row ms) ≡ false
    at None true true f g r e = absurd (true≢false (sym g ∙ not_some (m.stamp == s) (SharedStampRow m.tx) e))
    at None true false f g r e = r (ap (shared_if s) f)
    at None false b f g r e = r (ap (shared_if s) f)
    at (Some x) false b f g r e = r (ap (shared_if s) f ∙ e)
    at (Some x) true false f g r e = r (ap (shared_if s) f ∙ e)
    at (Some x) true true f g r e =
        let level : m.stamp ≡ s = is_equal m.stamp s g in
        let last : x.stamp ≡ m.stamp = all_alike m.stamp row ms x h.1 (omega (arith, level, k)) f in
        absurd (true≢false (sym (ap (λ n. n == s) (last ∙ level) ∙ same_number s) ∙ not_some (x.stamp == s) (SharedStampRow x.tx) e))

-- the rules of lists that are put together

each_append : (e xs ys : List Modification) → EachFollows e xs → EachFollows (e ++ xs) ys → EachFollows e (xs ++ ys)
each_append e [] ys h k = let P : List Modification → Type 0 = λ l. EachFollows l ys in subst P (append-nil e) k
each_append e (x ∷ xs) ys h k =
    let P : List Modification → Type 0 = λ l. EachFollows l ys in
    (h.0, each_append (e ++ x ∷ []) xs ys h.1 (subst P (sym (append_assoc e (x ∷ []) xs)) k))

pub from_append : (tables : List Table) (base : List Modification) (txn : Txn) (ws : List Write) (w : Write) → modifications_from tables base txn (ws ++ w ∷ []) ≡ modifications_from tables base txn ws ++ modification_of tables base txn w ∷ []
from_append tables base txn [] w = refl
from_append tables base txn (v ∷ ws) w = ap (λ l. modification_of tables base txn v ∷ l) (from_append tables base txn ws w)

-- a transaction's own modifications

pub present_of : (k : Kind) (row : RowName) (b : Bool) → there_if k row b ≡ None → absent_if k row b ≡ None → IsAllowed k b
present_of Insert row true e f = absurd (true≢false (ap is_some e))
present_of Insert row false e f = refl
present_of Update row true e f = refl
present_of Update row false e f = absurd (true≢false (ap is_some f))
present_of Delete row true e f = refl
present_of Delete row false e f = absurd (true≢false (ap is_some f))

id_append : (id : List ℕ) (xs ys : List Modification) → id_behind id (xs ++ ys) ≡ id_behind (id_behind id xs) ys
id_append id [] ys = refl
id_append id (x ∷ xs) ys = id_append x.tx xs ys

id_same : (tables : List Table) (base : List Modification) (txn : Txn) (ws : List Write) → id_behind txn.tx (modifications_from tables base txn ws) ≡ txn.tx
id_same tables base txn [] = refl
id_same tables base txn (w ∷ ws) = id_same tables base txn ws

tag_append : (tag : List ℕ) (xs ys : List Modification) → tag_behind tag (xs ++ ys) ≡ tag_behind (tag_behind tag xs) ys
tag_append tag [] ys = refl
tag_append tag (x ∷ xs) ys = tag_append x.tag xs ys

tag_same : (tables : List Table) (base : List Modification) (txn : Txn) (ws : List Write) → tag_behind txn.tag (modifications_from tables base txn ws) ≡ txn.tag
tag_same tables base txn [] = refl
tag_same tables base txn (w ∷ ws) = tag_same tables base txn ws

-- the last stamp, id and tag where some of a transaction stand
last_stamp_le : (tables : List Table) (ms : List Modification) (txn : Txn) (done : List Write) → last_stamp ms ≤ txn.stamp → last_stamp (ms ++ modifications_from tables ms txn done) ≤ txn.stamp
last_stamp_le tables ms txn [] le = subst (λ n. n ≤ txn.stamp) (sym (stamp_append 0 ms [])) le
last_stamp_le tables ms txn (w ∷ ws) le = let e = stamp_append 0 ms (modifications_from tables ms txn (w ∷ ws)) ∙ stamp_same tables ms txn ws in omega (arith, e)

same_transaction : (tables : List Table) (ms : List Modification) (txn : Txn) (done : List Write) → is_used txn.tx ms ≡ false
    → is_used txn.tx (ms ++ modifications_from tables ms txn done) ≡ true → (id_behind [] (ms ++ modifications_from tables ms txn done) ≡ txn.tx) × (last_stamp (ms ++ modifications_from tables ms txn done) ≡ txn.stamp) × (tag_behind [] (ms ++ modifications_from tables ms txn done) ≡ txn.tag)
same_transaction tables ms txn [] new old = absurd (true≢false (sym old ∙ ap (is_used txn.tx) (append-nil ms) ∙ new))
same_transaction tables ms txn (w ∷ ws) new old =
    (id_append [] ms (modifications_from tables ms txn (w ∷ ws)) ∙ id_same tables ms txn ws, stamp_append 0 ms (modifications_from tables ms txn (w ∷ ws)) ∙ stamp_same tables ms txn ws, tag_append [] ms (modifications_from tables ms txn (w ∷ ws)) ∙ tag_same tables ms txn ws)

pub record Sound (ms : List Modification) (txn : Txn) : Type 0 where
  pub history : IsHistory ms
  pub unused : is_used txn.tx ms ≡ false
  pub behind : last_stamp ms ≤ txn.stamp

one_follows : (tables : List Table) (ms : List Modification) (txn : Txn) (done : List Write) (w : Write) → Sound ms txn
    → is_named w.row done ≡ false → there_fault ms w ≡ None → absent_fault ms w ≡ None → shared_fault ms txn.stamp w ≡ None → Unrefused tables w
    → Follows (ms ++ modifications_from tables ms txn done) (modification_of tables ms txn w)
one_follows tables ms txn done w s new there absent shared u =
    let kept : state_before (ms ++ modifications_from tables ms txn done) w.row ≡ state_before ms w.row = ap left_of (last_kept tables w.row ms txn done new) in
    let allowed : IsAllowed w.kind (is_some (state_before ms w.row)) = present_of w.kind w.row (is_some (state_before ms w.row)) there absent in
    let free : List (List ℕ) = free_columns_of w.row.table tables in
    record {
      stamp = last_stamp_le tables ms txn done s.behind;
      id = same_transaction tables ms txn done s.unused;
      row = wrote_append txn.stamp w.row ms (modifications_from tables ms txn done) ∙ ap (λ b. cond b true (wrote_at txn.stamp w.row (modifications_from tables ms txn done))) (wrote_last 0 txn.stamp w.row ms (rises_from_rules 0 [] ms refl s.history) s.behind shared) ∙ wrote_unnamed tables w.row ms txn done new;
      kind = let P : Bool → Type 0 = λ b. IsAllowed w.kind b in subst P (sym (ap is_some kept)) allowed;
      before = let P : Option (List Cell) → Type 0 = λ o. AsItWas (row_cells free (state_before ms w.row)) (cells_or_none o) in subst P (sym kept) (as_it_was free (state_before ms w.row));
      after = leaves free w.kind w.set (state_before ms w.row) allowed (sets_free tables w u);
    }

all_follow : (tables : List Table) (ms : List Modification) (txn : Txn) (done ws : List Write) → Sound ms txn
    → twice_behind done ws ≡ None → first_of (there_fault ms) ws ≡ None → first_of (absent_fault ms) ws ≡ None → first_of (shared_fault ms txn.stamp) ws ≡ None → AllUnrefused tables ws
    → EachFollows (ms ++ modifications_from tables ms txn done) (modifications_from tables ms txn ws)
all_follow tables ms txn done [] s twice there absent shared u = tt
all_follow tables ms txn done (w ∷ ws) s twice there absent shared u =
    let t = not_first (is_named w.row done) (RowTwice w.row) (twice_behind (done ++ w ∷ []) ws) twice in
    let a = neither (there_fault ms w) (first_of (there_fault ms) ws) there in
    let b = neither (absent_fault ms w) (first_of (absent_fault ms) ws) absent in
    let c = neither (shared_fault ms txn.stamp w) (first_of (shared_fault ms txn.stamp) ws) shared in
    let P : List Modification → Type 0 = λ l. EachFollows l (modifications_from tables ms txn ws) in
    let is : ms ++ modifications_from tables ms txn (done ++ w ∷ []) ≡ (ms ++ modifications_from tables ms txn done) ++ modification_of tables ms txn w ∷ [] = ap (λ l. ms ++ l) (from_append tables ms txn done w) ∙ sym (append_assoc ms (modifications_from tables ms txn done) (modification_of tables ms txn w ∷ [])) in
    (one_follows tables ms txn done w s t.0 a.0 b.0 c.0 u.0, subst P is (all_follow tables ms txn (done ++ w ∷ []) ws s t.1 a.1 b.1 c.1 u.1))

not_below : (a b : ℕ) → nat_lt a b ≡ false → b ≤ a
not_below a b e = search rules

-- what the catalog leaves of the writes of a transaction that is not refused
pub all_unrefused : (tables : List Table) (ms : List Modification) (txn : Txn) → write_fault tables ms txn ≡ None → AllUnrefused tables txn.writes
all_unrefused tables ms txn none =
    let r = neither (row_fault ms txn) _ none in
    let v = neither (first_of (fault_by Values tables) txn.writes) _ r.1 in
    let k = neither (first_of (fault_by Set tables) txn.writes) _ v.1 in
    let e = neither (first_of (shared_fault ms txn.stamp) txn.writes) _ k.1 in
    let t = neither (first_of (fault_by Tables tables) txn.writes) (first_of (fault_by Columns tables) txn.writes) e.1 in
    each_unrefused tables txn.writes v.0 k.0 t.0 t.1

-- and what the history leaves of them
pub all_allowed : (tables : List Table) (ms : List Modification) (txn : Txn) → write_fault tables ms txn ≡ None → AllByRecursion (λ (w : Write). IsAllowed w.kind (is_some (state_before ms w.row))) txn.writes
all_allowed tables ms txn none =
    let r = neither (row_fault ms txn) _ none in
    let a = neither (id_fault ms txn.tx) _ r.0 in
    let b = neither (back_fault ms txn.stamp) _ a.1 in
    let c = neither (twice_behind [] txn.writes) _ b.1 in
    let d = neither (first_of (there_fault ms) txn.writes) _ c.1 in
    each txn.writes d.0 d.1
  where
    each : (ws : List Write) → first_of (there_fault ms) ws ≡ None → first_of (absent_fault ms) ws ≡ None → AllByRecursion (λ (w : Write). IsAllowed w.kind (is_some (state_before ms w.row))) ws
    each [] e f = tt
    each (w ∷ ws) e f =
        let a = neither (there_fault ms w) (first_of (there_fault ms) ws) e in
        let b = neither (absent_fault ms w) (first_of (absent_fault ms) ws) f in
        (present_of w.kind w.row (is_some (state_before ms w.row)) a.0 b.0, each ws a.1 b.1)

-- and that none of them names a row that an earlier one names
pub unnamed_twice : (tables : List Table) (ms : List Modification) (txn : Txn) → write_fault tables ms txn ≡ None → twice_behind [] txn.writes ≡ None
unnamed_twice tables ms txn none =
    let r = neither (row_fault ms txn) _ none in
    let a = neither (id_fault ms txn.tx) _ r.0 in
    let b = neither (back_fault ms txn.stamp) _ a.1 in
    (neither (twice_behind [] txn.writes) _ b.1).0

-- a transaction that is not refused keeps the rules
pub history_kept : (tables : List Table) (ms : List Modification) (txn : Txn) → IsHistory ms → write_fault tables ms txn ≡ None → IsHistory (ms ++ modifications_of tables ms txn)
history_kept tables ms txn h none =
    let r = neither (row_fault ms txn) _ none in
    let u = all_unrefused tables ms txn none in
    let a = neither (id_fault ms txn.tx) _ r.0 in
    let b = neither (back_fault ms txn.stamp) _ a.1 in
    let c = neither (twice_behind [] txn.writes) _ b.1 in
    let d = neither (first_of (there_fault ms) txn.writes) _ c.1 in
    let v = neither (first_of (fault_by Values tables) txn.writes) _ r.1 in
    let k = neither (first_of (fault_by Set tables) txn.writes) _ v.1 in
    let e = neither (first_of (shared_fault ms txn.stamp) txn.writes) _ k.1 in
    let s : Sound ms txn = record { history = h; unused = not_some _ IdUsed a.0; behind = not_below txn.stamp (last_stamp ms) (not_some _ StampBack b.0) } in
    let P : List Modification → Type 0 = λ l. EachFollows l (modifications_of tables ms txn) in
    each_append [] ms (modifications_of tables ms txn) h (subst P (append-nil ms) (all_follow tables ms txn [] txn.writes s c.0 d.0 d.1 e.0 u))
