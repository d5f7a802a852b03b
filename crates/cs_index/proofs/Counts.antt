-- Lists cut into groups: nothing is lost, and none is empty, so that a part has a record for each group of its changes.
use Rattle.std.proofs.Common.{◌≡◌, ℕ, suc, ◌+◌, ◌<◌, Bool, true, false, cond, List, [], ◌∷◌, ◌++◌, length, Option, None, Some, refl, sym, ap, ◌∙◌, subst, arith, append-nil, append_assoc, Contains, true≢false}
use Rattle.std.specs.Prelude.{⊤}
use Rattle.std.proofs.lemmas.Bool.{ltb-true}
use Rattle.std.proofs.lemmas.List.{nil_from_length}
use Rattle.std.proofs.lemmas.List.Elements.{filter-append}
use Rattle.cs_types.specs.Members.{from_filter}
use Rattle.cs_place.specs.declared.part.Part.{Part}
use Rattle.cs_place.specs.Part.{is_held}
use Rattle.cs_records.specs.declared.captured.Captured.{Captured}
use Rattle.cs_link.specs.Feed.{place_of}
use Rattle.cs_steps.specs.declared.places.RecordPlace.{RecordPlace}
use Rattle.cs_steps.specs.Cutting.{cut_behind, cut, joined}
use Rattle.cs_steps.specs.Index.{drafts, finished, is_end}
use Rattle.cs_steps.specs.Lines.{Line, IsLine, Opens, with_end}
use Rattle.cs_steps.specs.Records.{held, groups, records_of, Count}
use Rattle.cs_index.specs.Walk.{has_record}

-- ---- lists cut into groups

abbrev pub Filled : {A : Type 0} → List (List A) → Type 0
Filled [] = ⊤
Filled ([] ∷ gs) = ⊥
Filled ((c ∷ cs) ∷ gs) = Filled gs

module _ {A : Type 0} (takes : List A → A → Bool) where
  joined_behind : (group xs : List A) → joined (cut_behind takes group xs) ≡ group ++ xs
  joined_behind group [] = refl
  joined_behind group (x ∷ xs) = by (takes group x) (joined_behind (group ++ x ∷ []) xs ∙ append_assoc group (x ∷ []) xs) (joined_behind (x ∷ []) xs)
    where
      by : (b : Bool) → joined (cut_behind takes (group ++ x ∷ []) xs) ≡ group ++ x ∷ xs → joined (cut_behind takes (x ∷ []) xs) ≡ x ∷ xs
          → joined (cond b (cut_behind takes (group ++ x ∷ []) xs) (group ∷ cut_behind takes (x ∷ []) xs)) ≡ group ++ x ∷ xs
      by true h k = h
      by false h k = ap (λ l. group ++ l) k

  pub joined_cut : (xs : List A) → joined (cut takes xs) ≡ xs
  joined_cut [] = refl
  joined_cut (x ∷ xs) = joined_behind (x ∷ []) xs

  filled_behind : (c : A) (group xs : List A) → Filled (cut_behind takes (c ∷ group) xs)
  filled_behind c group [] = tt
  filled_behind c group (x ∷ xs) = by (takes (c ∷ group) x) (filled_behind c (group ++ x ∷ []) xs) (filled_behind x [] xs)
    where
      by : (b : Bool) → Filled (cut_behind takes ((c ∷ group) ++ x ∷ []) xs) → Filled (cut_behind takes (x ∷ []) xs) → Filled (cond b (cut_behind takes ((c ∷ group) ++ x ∷ []) xs) ((c ∷ group) ∷ cut_behind takes (x ∷ []) xs))
      by true h k = h
      by false h k = k

  pub filled_cut : (xs : List A) → Filled (cut takes xs)
  filled_cut [] = tt
  filled_cut (x ∷ xs) = filled_behind x [] xs

  some_behind : (group xs : List A) → 0 < length (cut_behind takes group xs)
  some_behind group [] = omega arith
  some_behind group (x ∷ xs) = by (takes group x) (some_behind (group ++ x ∷ []) xs)
    where
      by : (b : Bool) → 0 < length (cut_behind takes (group ++ x ∷ []) xs) → 0 < length (cond b (cut_behind takes (group ++ x ∷ []) xs) (group ∷ cut_behind takes (x ∷ []) xs))
      by true h = h
      by false h = omega arith

  pub cut_some : (xs : List A) (x : A) → 0 < length (cut takes (xs ++ x ∷ []))
  cut_some [] x = omega arith
  cut_some (y ∷ ys) x = some_behind (y ∷ []) (ys ++ x ∷ [])

  pub from_cut : (xs : List A) → 0 < length (cut takes xs) → (x : A) × Contains xs x
  from_cut [] h = absurd (omega arith)
  from_cut (x ∷ xs) h = (x, (0, omega arith, refl))

-- ---- a draft for each group

drafts_count : (n : ℕ) (gs : List (List Captured)) → Filled gs → length (drafts n gs) ≡ length gs
drafts_count n [] h = refl
drafts_count n ([] ∷ gs) h = absurd h
drafts_count n ((c ∷ cs) ∷ gs) h = ap suc (drafts_count (n + length (c ∷ cs)) gs h)

module _ (parts : List Part) (part : Part) (items : List Captured) (whole : List (List Captured)) (now : List Captured) (line : Line) (L : IsLine parts part items whole now line) where
  pub opened_count : length line.opened ≡ records_of now part
  opened_count = ap length L.opened ∙ drafts_count (length (held part (joined whole))) (groups (held part now)) (filled_cut _ (held part now))

  pub quiet_is : is_end line.opened ≡ true → records_of now part ≡ 0
  quiet_is e = sym opened_count ∙ by line.opened e
    where
      by : (rs : List RecordPlace) → is_end rs ≡ true → length rs ≡ 0
      by [] h = refl
      by (r ∷ rs) h = absurd (true≢false (sym h))

  pub loud_is : is_end line.opened ≡ false → 0 < records_of now part
  loud_is e = subst (λ n. 0 < n) opened_count (by line.opened e)
    where
      by : (rs : List RecordPlace) → is_end rs ≡ false → 0 < length rs
      by [] h = absurd (true≢false h)
      by (r ∷ rs) h = omega arith

  -- a part without a record stays as it is at the end of a transaction
  pub quiet_end : records_of now part ≡ 0 → (count : Count) (sequence : ℕ) → with_end line count sequence ≡ line
  quiet_end e count sequence =
      let none : groups (held part now) ≡ [] = nil_from_length (groups (held part now)) e in
      let opened : line.opened ≡ [] = nil_from_length line.opened (opened_count ∙ e) in
      let first : line.first ≡ None = by line.first (subst (λ l. Opens l line.first) none L.first) in
      λ i. record {
        changes = line.changes;
        records = (ap (λ o. line.records ++ finished count sequence o) opened ∙ append-nil line.records) i;
        opened = (sym opened) i;
        first = (sym first) i;
      }
    where
      by : (o : Option Captured) → Opens [] o → o ≡ None
      by None h = refl
      by (Some c) h = absurd (long h.0 (c ∷ h.1) h.2)
        where
          long : (front : List (List Captured)) (g : List Captured) → [] ≡ front ++ g ∷ [] → ⊥
          long [] g k = cc
          long (f ∷ front) g k = cc

-- ---- what has a record holds a change

pub some_held : (part : Part) (now : List Captured) → has_record now part ≡ true → (c : Captured) × Contains now c × (is_held part (place_of c.change.row) c.change.stamp ≡ true)
some_held part now h =
    let r = from_cut _ (held part now) (ltb-true 0 (records_of now part) h) in
    let m = from_filter (λ x. is_held part (place_of x.change.row) x.change.stamp) r.0 now r.1 in
    (r.0, m.0, m.1)

-- a change more that a part holds gives it a record
pub has_more : (part : Part) (now : List Captured) (c : Captured) → is_held part (place_of c.change.row) c.change.stamp ≡ true → 0 < records_of (now ++ c ∷ []) part
has_more part now c h =
    let e : held part (now ++ c ∷ []) ≡ held part now ++ c ∷ [] = filter-append (λ x. is_held part (place_of x.change.row) x.change.stamp) now (c ∷ []) ∙ ap (λ b. held part now ++ cond b (c ∷ []) []) h in
    subst (λ l. 0 < length (groups l)) (sym e) (cut_some _ (held part now) c)

pub has_same : (part : Part) (now : List Captured) (c : Captured) → is_held part (place_of c.change.row) c.change.stamp ≡ false → records_of (now ++ c ∷ []) part ≡ records_of now part
has_same part now c h =
    let e : held part (now ++ c ∷ []) ≡ held part now = filter-append (λ x. is_held part (place_of x.change.row) x.change.stamp) now (c ∷ []) ∙ ap (λ b. held part now ++ cond b (c ∷ []) []) h ∙ append-nil (held part now) in
    ap (λ l. length (groups l)) e
