-- A row's object is as long as its cells together, each column counted once.
use Rattle.std.proofs.Common.{◌≡◌, ◌∙◌, sym, ap, subst, refl, ℕ, zero, suc, ◌+◌, ◌<◌, List, [], ◌∷◌, ◌++◌, length, map, Some, None, cond, true, arith, Less, Equal, Greater, nat_cmp, length-append}
use Rattle.std.specs.declared.option.Option.{Option}
use Rattle.std.specs.declared.cmp.Ordering.{Ordering}
use Rattle.std.specs.Ordering.{is_eq, match_ordering, ordering_reverse}
use Rattle.std.specs.Cmp.Lexicographic.{slice_cmp, nat_list_cmp_total}
use Rattle.std.specs.List.{AllByRecursion}
use Rattle.std.specs.List.Sorted.{IsStrictlySortedBy}
use Rattle.std.proofs.lemmas.Cmp.{tied_itself}
use Rattle.std.proofs.lemmas.Map.Lookups.{exact_bytes}
use Rattle.json.specs.Print.{quoted}
use Rattle.serde_json.specs.Data.{Data, Members, no_members, member, put, object}
use Rattle.serde_json.specs.Written.{compact_text, members_text}
use Rattle.cs_types.specs.declared.cells.Cell.{Cell}
use Rattle.cs_types.specs.declared.value.Value.{Value}
use Rattle.cs_types.specs.Cells.{IsRising}
use Rattle.cs_types.specs.Value.{value_data}
use Rattle.std.specs.Option.{option_or}
use Rattle.cs_txn.specs.Left.{found_in}
use Rattle.cs_txn.specs.Sizes.{members_with, row_size}
use Rattle.cs_txn.specs.Lengths.{member_length, members_length, object_length, cells_length, length_if, hidden_length}
use Rattle.cs_txn.proofs.Searching.{not_it, none_above}

-- the text of an object

text_length : (k : List ℕ) (d : Data) (rest : List ℕ) → length (quoted k ++ 58 ∷ (compact_text d ++ rest)) ≡ length (quoted k) + suc (length (compact_text d) + length rest)
text_length k d rest = length-append (quoted k) (58 ∷ (compact_text d ++ rest)) ∙ ap (λ n. length (quoted k) + suc n) (length-append (compact_text d) rest)

later_length : (ms : Members) → length (members_text true ms) ≡ suc (members_length ms)
later_length no_members = refl
later_length (member k d ms) =
    let e : length (quoted k ++ 58 ∷ (compact_text d ++ members_text true ms)) ≡ length (quoted k) + suc (length (compact_text d) + length (members_text true ms)) = text_length k d (members_text true ms) in
    let i = later_length ms in
    omega (arith, e, i)

pub above_zero : (n : ℕ) → 0 < n → object_length n ≡ n + 1
above_zero zero h = absurd (omega (arith, h))
above_zero (suc n) h = omega arith

pub object_text : (ms : Members) → length (compact_text (object ms)) ≡ object_length (members_length ms)
object_text no_members = refl
object_text (member k d ms) =
    let e : length (quoted k ++ 58 ∷ (compact_text d ++ members_text true ms)) ≡ length (quoted k) + suc (length (compact_text d) + length (members_text true ms)) = text_length k d (members_text true ms) in
    let i = later_length ms in
    let whole : length (compact_text (object (member k d ms))) ≡ (member_length k d + members_length ms) + 1 = omega (arith, e, i) in
    whole ∙ sym (above_zero (member_length k d + members_length ms) (omega arith))

-- what stands at a name, and what is put there

abbrev stands : List ℕ → Members → Option Data
stands k no_members = None
stands k (member l e ms) = match_ordering (slice_cmp nat_cmp k l) None (Some e) (stands k ms)

abbrev data_length : List ℕ → Option Data → ℕ
data_length k None = 0
data_length k (Some d) = member_length k d

put_length : (k : List ℕ) (d : Data) (ms : Members) → members_length (put k d ms) + data_length k (stands k ms) ≡ member_length k d + members_length ms
put_length k d no_members = omega arith
put_length k d (member l e ms) = at (slice_cmp nat_cmp k l) refl (put_length k d ms)
  where
    at : (o : Ordering) → slice_cmp nat_cmp k l ≡ o → members_length (put k d ms) + data_length k (stands k ms) ≡ member_length k d + members_length ms
        → members_length (match_ordering o (member k d (member l e ms)) (member l d ms) (member l e (put k d ms))) + data_length k (match_ordering o None (Some e) (stands k ms)) ≡ member_length k d + (member_length l e + members_length ms)
    at Less is i = omega arith
    at Equal is i =
        let same : k ≡ l = exact_bytes k l is in
        let a : member_length l d ≡ member_length k d = ap (λ n. member_length n d) (sym same) in
        let b : member_length k e ≡ member_length l e = ap (λ n. member_length n e) same in
        omega (arith, a, b)
    at Greater is i = omega (arith, i)

reversed : (a b : List ℕ) (o : Ordering) → slice_cmp nat_cmp a b ≡ o → slice_cmp nat_cmp b a ≡ ordering_reverse o
reversed a b o e = nat_list_cmp_total.antisymm b a ∙ ap ordering_reverse e

chosen : (q k : List ℕ) (o : Ordering) (a b c : Option Data) → slice_cmp nat_cmp q k ≡ o → match_ordering (slice_cmp nat_cmp q k) a b c ≡ match_ordering o a b c
chosen q k o a b c e = ap (λ p. match_ordering p a b c) e

-- a name above that of what is put
stands_above : (q k : List ℕ) (d : Data) (ms : Members) → slice_cmp nat_cmp k q ≡ Less → stands q (put k d ms) ≡ stands q ms
stands_above q k d no_members h = chosen q k Greater None (Some d) None (reversed k q Less h)
stands_above q k d (member l e ms) h = at (slice_cmp nat_cmp k l) refl (stands_above q k d ms h)
  where
    at : (o : Ordering) → slice_cmp nat_cmp k l ≡ o → stands q (put k d ms) ≡ stands q ms
        → stands q (match_ordering o (member k d (member l e ms)) (member l d ms) (member l e (put k d ms))) ≡ match_ordering (slice_cmp nat_cmp q l) None (Some e) (stands q ms)
    at Less is i = chosen q k Greater None (Some d) (stands q (member l e ms)) (reversed k q Less h)
    at Equal is i =
        let above : slice_cmp nat_cmp q l ≡ Greater = ap (slice_cmp nat_cmp q) (sym (exact_bytes k l is)) ∙ reversed k q Less h in
        chosen q l Greater None (Some d) (stands q ms) above ∙ sym (chosen q l Greater None (Some e) (stands q ms) above)
    at Greater is i = ap (match_ordering (slice_cmp nat_cmp q l) None (Some e)) i

-- a name below it
stands_below : (q k : List ℕ) (d : Data) (ms : Members) → slice_cmp nat_cmp q k ≡ Less → stands q (put k d ms) ≡ stands q ms
stands_below q k d no_members h = chosen q k Less None (Some d) None h
stands_below q k d (member l e ms) h = at (slice_cmp nat_cmp k l) refl (stands_below q k d ms h)
  where
    at : (o : Ordering) → slice_cmp nat_cmp k l ≡ o → stands q (put k d ms) ≡ stands q ms
        → stands q (match_ordering o (member k d (member l e ms)) (member l d ms) (member l e (put k d ms))) ≡ match_ordering (slice_cmp nat_cmp q l) None (Some e) (stands q ms)
    at Less is i =
        chosen q k Less None (Some d) (stands q (member l e ms)) h
        ∙ sym (chosen q l Less None (Some e) (stands q ms) (nat_list_cmp_total.trans q k l h is))
    at Equal is i =
        let below : slice_cmp nat_cmp q l ≡ Less = ap (slice_cmp nat_cmp q) (sym (exact_bytes k l is)) ∙ h in
        chosen q l Less None (Some d) (stands q ms) below ∙ sym (chosen q l Less None (Some e) (stands q ms) below)
    at Greater is i = ap (match_ordering (slice_cmp nat_cmp q l) None (Some e)) i

-- the name itself
stands_there : (k : List ℕ) (d : Data) (ms : Members) → stands k (put k d ms) ≡ Some d
stands_there k d no_members = chosen k k Equal None (Some d) None (tied_itself nat_list_cmp_total k)
stands_there k d (member l e ms) = at (slice_cmp nat_cmp k l) refl (stands_there k d ms)
  where
    at : (o : Ordering) → slice_cmp nat_cmp k l ≡ o → stands k (put k d ms) ≡ Some d
        → stands k (match_ordering o (member k d (member l e ms)) (member l d ms) (member l e (put k d ms))) ≡ Some d
    at Less is i = chosen k k Equal None (Some d) (stands k (member l e ms)) (tied_itself nat_list_cmp_total k)
    at Equal is i = chosen k l Equal None (Some d) (stands k ms) is
    at Greater is i = chosen k l Greater None (Some e) (stands k (put k d ms)) is ∙ i

-- members for rising cells

abbrev data_of : Option Value → Option Data
data_of None = None
data_of (Some v) = Some (value_data v)

pub stands_with : (q : List ℕ) (ms : Members) (cs : List Cell) → IsRising cs → stands q (members_with ms cs) ≡ option_or (data_of (found_in q cs)) (stands q ms)
unfolding IsStrictlySortedBy
stands_with q ms [] r = refl
stands_with q ms (c ∷ cs) r = stands_with q (put c.column (value_data c.value) ms) cs r.1 ∙ at (slice_cmp nat_cmp c.column q) refl
  where
    at : (o : Ordering) → slice_cmp nat_cmp c.column q ≡ o
        → option_or (data_of (found_in q cs)) (stands q (put c.column (value_data c.value) ms)) ≡ option_or (data_of (cond (is_eq (slice_cmp nat_cmp c.column q)) (Some c.value) (found_in q cs))) (stands q ms)
    at Less is =
        ap (option_or (data_of (found_in q cs))) (stands_above q c.column (value_data c.value) ms is)
        ∙ ap (λ o. option_or (data_of o) (stands q ms)) (sym (not_it c cs q Less is refl))
    at Greater is =
        ap (option_or (data_of (found_in q cs))) (stands_below q c.column (value_data c.value) ms (reversed c.column q Greater is))
        ∙ ap (λ o. option_or (data_of o) (stands q ms)) (sym (not_it c cs q Greater is refl))
    at Equal is =
        let same : c.column ≡ q = exact_bytes c.column q is in
        let P : List ℕ → Type 0 = λ n. AllByRecursion (λ y. slice_cmp nat_cmp n y ≡ Less) (map (λ (d : Cell). d.column) cs) in
        let none : found_in q cs ≡ None = none_above q cs (subst P same r.0) in
        ap (λ o. option_or (data_of o) (stands q (put c.column (value_data c.value) ms))) none
        ∙ ap (λ n. stands n (put c.column (value_data c.value) ms)) (sym same) ∙ stands_there c.column (value_data c.value) ms
        ∙ sym (ap (λ o. option_or (data_of (cond (is_eq o) (Some c.value) (found_in q cs))) (stands q ms)) is)

abbrev replaced : Members → List Cell → ℕ
replaced ms [] = 0
replaced ms (c ∷ cs) = data_length c.column (stands c.column ms) + replaced ms cs

replaced_same : (k : List ℕ) (d : Data) (ms : Members) (cs : List Cell) → AllByRecursion (λ y. slice_cmp nat_cmp k y ≡ Less) (map (λ (c : Cell). c.column) cs) → replaced (put k d ms) cs ≡ replaced ms cs
replaced_same k d ms [] h = refl
replaced_same k d ms (c ∷ cs) h =
    ap (λ o. data_length c.column o + replaced (put k d ms) cs) (stands_above c.column k d ms h.0)
    ∙ ap (λ n. data_length c.column (stands c.column ms) + n) (replaced_same k d ms cs h.1)

with_length : (ms : Members) (cs : List Cell) → IsRising cs → members_length (members_with ms cs) + replaced ms cs ≡ cells_length cs + members_length ms
unfolding IsStrictlySortedBy
with_length ms [] r = omega arith
with_length ms (c ∷ cs) r =
    let i = with_length (put c.column (value_data c.value) ms) cs r.1 in
    let p = put_length c.column (value_data c.value) ms in
    let s = replaced_same c.column (value_data c.value) ms cs r.0 in
    omega (arith, i, p, s)

replaces_none : (cs : List Cell) → replaced no_members cs ≡ 0
replaces_none [] = refl
replaces_none (c ∷ cs) = let i = replaces_none cs in omega (arith, i)

or_nothing : (name : List ℕ) (o : Option Value) → data_length name (option_or (data_of o) None) ≡ length_if name o
or_nothing name None = refl
or_nothing name (Some v) = refl

hides : (key cs : List Cell) → IsRising key → replaced (members_with no_members key) cs ≡ hidden_length key cs
hides key [] r = refl
hides key (c ∷ cs) r =
    ap (λ o. data_length c.column o + replaced (members_with no_members key) cs) (stands_with c.column no_members key r)
    ∙ ap (λ n. n + replaced (members_with no_members key) cs) (or_nothing c.column (found_in c.column key))
    ∙ ap (λ n. length_if c.column (found_in c.column key) + n) (hides key cs r)

pub row_length : (key cells : List Cell) → IsRising key → IsRising cells → members_length (members_with (members_with no_members key) cells) + hidden_length key cells ≡ cells_length cells + cells_length key
row_length key cells r s =
    let a = with_length (members_with no_members key) cells s in
    let b = with_length no_members key r in
    let z = replaces_none key in
    let h = hides key cells r in
    omega (arith, a, b, z, h)

-- a row's size, from three sums
pub size_from : (key cells : List Cell) (n : ℕ) → IsRising key → IsRising cells → n + hidden_length key cells ≡ cells_length cells + cells_length key → object_length n ≡ row_size key cells
size_from key cells n r s e =
    let w = row_length key cells r s in
    let same : n ≡ members_length (members_with (members_with no_members key) cells) = omega (arith, e, w) in
    ap object_length same ∙ sym (object_text (members_with (members_with no_members key) cells))
