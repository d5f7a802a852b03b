-- What stands at places of a list.
use Rattle.std.proofs.Common.{◌≡◌, ℕ, zero, suc, ◌+◌, ◌*◌, ◌≤◌, All, Contains, flat_map, length-drop, ◌<◌, Bool, List, [], ◌∷◌, ◌++◌, length, get_or, take, drop, refl, sym, ap, ◌∙◌, subst, arith}
use Rattle.std.proofs.Math.Seq.{drop-cons}
use Rattle.std.proofs.lemmas.List.{get_or_default, length-take-le}
use Rattle.std.proofs.lemmas.List.Elements.{All-contains, All-take, All-drop}
use Rattle.cs_types.specs.Members.{in_head, in_tail}
use Rattle.cs_records.specs.declared.captured.Captured.{Captured}
use Rattle.cs_records.specs.declared.records.Child.{Child}
use Rattle.cs_records.specs.declared.records.DataRecord.{DataRecord}
use Rattle.cs_steps.specs.declared.places.RecordPlace.{RecordPlace}
use Rattle.cs_steps.specs.Cursor.{Source, IsAt}
use Rattle.cs_steps.specs.Places.{taken_at, places_of, record_at, StandFor}
use Rattle.cs_steps.specs.Steps.{child_groups}
use Rattle.cs_steps.proofs.Cuts.{count}
use Rattle.cs_steps.proofs.CursorSteps.{some_at}
use Rattle.cs_steps.specs.Records.{Count, record_of, told_as}

pub taken_first : {A : Type 0} (items : List A) (ks : List ℕ) (x : A) → 0 < length ks → get_or ks 0 0 < length items → x ≡ get_or items (get_or ks 0 0) x → (more : List A) × (taken_at items ks ≡ x ∷ more)
taken_first items [] x some lt e = absurd (omega arith)
taken_first items (k ∷ ks) x some lt e = (taken_at items ks, ap (λ l. take 1 l ++ taken_at items ks) (drop-cons items k x lt) ∙ ap (λ y. y ∷ taken_at items ks) (sym e))

pub one_record : (count : Count) (n : ℕ) (last : Bool) (group : List Captured) (c : Captured) (more : List Captured) → group ≡ c ∷ more → told_as count n last group ≡ record_of count n last c group ∷ []
one_record count n last group c more e = ap (told_as count n last) e ∙ ap (λ g. record_of count n last c g ∷ []) (sym e)

-- ---- the records at places

at_one : {A B : Type 0} (f : B → List A) (ps : List B) → ((p : B) → Contains ps p → (x : A) × (f p ≡ x ∷ [])) → (k : ℕ) (p : B) → IsAt ps k p → (x : A) → f p ≡ x ∷ [] → IsAt (flat_map f ps) k x
at_one f [] h k p i x e = absurd (omega (arith, i.0))
at_one f (q ∷ ps) h zero p i x e = subst (λ l. IsAt (l ++ flat_map f ps) 0 x) (sym (ap f i.1 ∙ e)) (omega arith, refl)
at_one f (q ∷ ps) h (suc k) p i x e =
    let y = h q (in_head q ps) in
    let r = at_one f ps (λ z j. h z (in_tail q z ps j)) k p (omega (arith, i.0), i.1) x e in
    subst (λ l. IsAt (l ++ flat_map f ps) (suc k) x) (sym y.1) (omega (arith, r.0), r.1)

as_long : {A B : Type 0} (f : B → List A) (ps : List B) → ((p : B) → Contains ps p → (x : A) × (f p ≡ x ∷ [])) → length (flat_map f ps) ≡ length ps
as_long f [] h = refl
as_long f (q ∷ ps) h =
    let y = h q (in_head q ps) in
    ap (λ l. length (l ++ flat_map f ps)) y.1 ∙ ap suc (as_long f ps (λ z j. h z (in_tail q z ps j)))

one_at : {A : Type 0} (xs : List A) (k : ℕ) (x y : A) → IsAt xs k x → IsAt xs k y → x ≡ y
one_at xs k x y i j = sym i.1 ∙ get_or_default xs k x y i.0 ∙ j.1

module _ (s : Source) (items : List Captured) (changes : List ℕ) (places : List RecordPlace) (start : ℕ) (children : List Child) (h : StandFor s items changes places start children) where
  each_one : (p : RecordPlace) → Contains places p → (d : DataRecord) × (record_at items changes p ≡ d ∷ [])
  each_one p i =
      let some : 0 < p.count = All-contains (λ (x : RecordPlace). 0 < x.count) places p h.some i in
      let within : p.first + p.count ≤ length changes = All-contains (λ (x : RecordPlace). x.first + x.count ≤ length changes) places p h.within i in
      let size : length (places_of changes p) ≡ p.count = length-take-le p.count (drop p.first changes) (omega (arith, within, length-drop p.first changes)) in
      let first = some_at (places_of changes p) 0 (omega (arith, size, some)) in
      let inside : All (λ k. k < length items) (places_of changes p) = All-take (λ k. k < length items) p.count (drop p.first changes) (All-drop (λ k. k < length items) p.first changes h.there) in
      let lt : get_or (places_of changes p) 0 0 < length items = inside 0 0 (omega (arith, size, some)) in
      let c = some_at items (get_or (places_of changes p) 0 0) lt in
      let t = taken_first items (places_of changes p) c.0 (omega (arith, size, some)) lt (sym c.1.1) in
      (record_of (record { records = p.records_in_tx; parts = p.parts_in_tx }) p.sequence p.is_last c.0 (taken_at items (places_of changes p)), one_record (record { records = p.records_in_tx; parts = p.parts_in_tx }) p.sequence p.is_last (taken_at items (places_of changes p)) c.0 t.0 t.1)

  pub same_count : length s.records ≡ length places
  same_count = ap length (sym h.records) ∙ as_long (record_at items changes) places each_one

  -- the record at a place is that of the source
  pub is_record : (k : ℕ) (p : RecordPlace) (d e : DataRecord) → IsAt places k p → record_at items changes p ≡ d ∷ [] → IsAt s.records k e → d ≡ e
  is_record k p d e i r j = one_at s.records k d e (subst (λ l. IsAt l k d) h.records (at_one (record_at items changes) places each_one k p i d r)) j

  -- the child record at a place begins within the children
  pub in_children : (k : ℕ) (group : List Child) → IsAt (child_groups s.children) k group → (1024 * k ≤ length children) × (k < 8192)
  in_children k group i =
      let c : 1024 * length (child_groups s.children) < length s.children + 1024 + 1 = count 1024 s.children in
      let l : length s.children ≡ length children = ap length h.children_are in
      (omega (arith, c, l, i.0), omega (arith, c, l, i.0, h.few))
