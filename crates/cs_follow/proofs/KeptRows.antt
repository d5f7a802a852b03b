-- What holds of all rows still holds of them behind an entry, and behind a try.
use Rattle.std.proofs.Common.{◌≡◌, ℕ, ◌≤◌, Bool, true, false, not, List, [], Option, Some, ⊎_elim, sym, refl, ap, ◌∙◌, subst, arith, true≢false, map, Contains, bytes_eq}
use Rattle.std.proofs.lemmas.Bool.{cases_Bool}
use Rattle.cs_types.specs.Members.{bytes_same, bytes_itself, in_nil, from_filter, from_map}
use Rattle.cs_link.specs.declared.batch.Batch.{Batch}
use Rattle.cs_link.specs.declared.batch.NewChild.{NewChild}
use Rattle.cs_schedule.specs.declared.entry.Entry.{Entry}
use Rattle.cs_schedule.specs.declared.entry.Entry.TheVariants.{Opened}
use Rattle.cs_schedule.specs.declared.row.Row.{Row}
use Rattle.cs_schedule.specs.Board.{IsOrdered}
use Rattle.cs_schedule.specs.Consistent.{news, through_by, born, advanced, has_row, put_rows, rowless}
use Rattle.cs_schedule.specs.Update.{applied}
use Rattle.cs_book.specs.Waiting.{AreFree, AreWithin, IsWithin}
use Rattle.cs_follow.proofs.PlannedCases.{Ends, Brings, Idles}
use Rattle.cs_follow.proofs.RowLemmas.{puts_from, advanced_row, its, other, row_at}

pub same_row : (rows : List Row) (a r : Row) → IsOrdered rows → Contains rows a → Contains rows r → a.token ≡ r.token → a ≡ r
same_row rows a r O i j h = let same : Some a ≡ Some r = sym (row_at rows r.token a O i h) ∙ row_at rows r.token r O j refl in cc

-- what a property of rows needs, to hold of those behind an entry of the row r
pub record Lasts (P : Row → Type 0) (rows : List Row) (r : Row) (b : Batch) : Type 0 where
  pub old : (y : Row) → Contains rows y → P y
  pub moved : (fin : Bool) → P (advanced_row r.token (through_by r b) (news r b) fin r)
  pub new : (x : NewChild) → Contains b.children x → P (born x)

module _ (P : Row → Type 0) (s : ℕ) (rows : List Row) (r : Row) (b : Batch) (O : IsOrdered rows) (there : Contains rows r) (L : Lasts P rows r b) where
  of_front : (fin : Bool) (y : Row) → Contains (map (advanced r.token (through_by r b) (news r b) fin) rows) y → P y
  of_front fin y i =
      let u = from_map (advanced r.token (through_by r b) (news r b) fin) y rows i in
      ⊎_elim
      (λ (q : bytes_eq r.token u.0.token ≡ true).
      let same : u.0 ≡ r = same_row rows u.0 r O u.1 there (sym (bytes_same r.token u.0.token q)) in
      subst P (sym (u.2 ∙ ap (advanced r.token (through_by r b) (news r b) fin) same ∙ its r.token (through_by r b) (news r b) fin r refl)) (L.moved fin))
      (λ (q : bytes_eq r.token u.0.token ≡ false). subst P (sym (u.2 ∙ other r.token (through_by r b) (news r b) fin u.0 (λ same. true≢false (sym (subst (λ z. bytes_eq r.token z ≡ true) (sym same) (bytes_itself r.token)) ∙ q)))) (L.old u.0 u.1))
      (cases_Bool (bytes_eq r.token u.0.token))

  pub ends_last : (o : Option Entry) → Ends r b o → (y : Row) → Contains (applied s rows o) y → P y
  ends_last o E y i =
      let front = map (advanced r.token (through_by r b) (news r b) true) rows in
      let new = map born (rowless rows b.children) in
      ⊎_elim
      (λ (j : Contains new y).
      let u = from_map born y (rowless rows b.children) j in
      let v = from_filter (λ x. not (has_row x.token rows)) u.0 b.children u.1 in
      subst P (sym u.2) (L.new u.0 v.0))
      (λ (j : Contains front y). of_front true y j)
      (puts_from new front y (subst (λ l. Contains l y) (ap (applied s rows) E.entry) i))

  pub brings_last : (o : Option Entry) → Brings r b o → (y : Row) → Contains (applied s rows o) y → P y
  brings_last o B y i = of_front false y (subst (λ l. Contains l y) (ap (applied s rows) B.entry) i)

  pub idles_last : (o : Option Entry) → Idles r b o → (y : Row) → Contains (applied s rows o) y → P y
  idles_last o I y i = L.old y (subst (λ l. Contains l y) (ap (applied s rows) I.entry) i)

pub opened_last : (P : Row → Type 0) (s : ℕ) (rows : List Row) (tokens : List (List ℕ)) (o : Option Entry) → rows ≡ [] → o ≡ Some (Opened tokens) → ((t : List ℕ) → P (born (record { token = t; parents = []; start = s }))) → (y : Row) → Contains (applied s rows o) y → P y
opened_last P s rows tokens o none is new y i =
    let start = λ (t : List ℕ). born (record { token = t; parents = []; start = s }) in
    let all : applied s rows o ≡ put_rows (map start tokens) [] = ap (applied s rows) is ∙ ap (put_rows (map start tokens)) none in
    ⊎_elim
    (λ (j : Contains (map start tokens) y). let u = from_map start y tokens j in subst P (sym u.2) (new u.0))
    (λ (j : Contains [] y). absurd (in_nil y j))
    (puts_from (map start tokens) [] y (subst (λ l. Contains l y) all i))

-- ---- the two properties

pub lasting : (e : ℕ) (rows : List Row) (r : Row) (b : Batch) → AreFree rows → AreWithin e rows → Contains rows r → b.through ≤ e → ((x : NewChild) → Contains b.children x → x.start ≤ e) → Lasts (λ y. (y.leased ≡ false) × IsWithin e y) rows r b
lasting e rows r b free within there low starts = record {
  old = λ y i. (free y i, within y i);
  moved = λ fin. let start = (within r there).start in let end = (within r there).end in (free r there, record { start = omega (arith, start); end = omega (arith, end, low) });
  new = λ x i. let start = starts x i in (refl, record { start = omega arith; end = omega (arith, start) });
}

pub lasting_first : (e s : ℕ) → s ≤ e → (t : List ℕ) → ((born (record { token = t; parents = []; start = s })).leased ≡ false) × IsWithin e (born (record { token = t; parents = []; start = s }))
lasting_first e s order t = (refl, record { start = omega arith; end = omega (arith, order) })
