-- What one captured change more does to the index of a part.
use Rattle.std.proofs.Common.{◌≡◌, ℕ, suc, ◌+◌, Bool, true, false, ◌&&◌, cond, nat_lt, List, [], ◌∷◌, ◌++◌, length, Option, None, Some, refl, sym, ap, ◌∙◌, subst, arith, append-nil, append_assoc, length-append}
use Rattle.std.proofs.lemmas.Grind.{flat_map-append}
use Rattle.std.proofs.lemmas.List.Elements.{filter-append}
use Rattle.cs_place.specs.declared.part.Part.{Part}
use Rattle.cs_place.specs.Part.{is_held}
use Rattle.cs_records.specs.declared.captured.Captured.{Captured}
use Rattle.cs_link.specs.Feed.{place_of}
use Rattle.cs_steps.specs.declared.places.RecordPlace.{RecordPlace}
use Rattle.cs_steps.specs.Cutting.{cut_behind, cut, joined}
use Rattle.cs_steps.specs.Index.{places_held, draft_of, drafts, finished, tx_places, record_places}
use Rattle.cs_steps.specs.Lines.{last_count, one_more, goes_on, grown, first_behind, Opens, Line, IsLine, with_change, StartsEmpty, TakesHeld, PassesOther, EndsWhole, CutsTransactions, goes_on_with}
use Rattle.cs_steps.specs.Records.{held, is_alike, groups, count_of, first_sequence}
use Rattle.cs_steps.proofs.Cuts.{whole}
use Rattle.cs_steps.proofs.Picked.{held_picks, picks_count}
use Rattle.cs_steps.proofs.Records.{joins}

-- ---- one element more of a list that is cut

module _ {A : Type 0} (takes : List A → A → Bool) where
  abbrev pub add : List (List A) → A → List (List A)
  add [] x = (x ∷ []) ∷ []
  add (g ∷ []) x = cond (takes g x) ((g ++ x ∷ []) ∷ []) (g ∷ (x ∷ []) ∷ [])
  add (g ∷ h ∷ gs) x = g ∷ add (h ∷ gs) x

  add_skips : (g h ys : List A) (x : A) → add (g ∷ cut_behind takes h ys) x ≡ g ∷ add (cut_behind takes h ys) x
  add_skips g h [] x = refl
  add_skips g h (y ∷ ys) x = by (takes h y) (add_skips g (h ++ y ∷ []) ys x)
    where
      by : (b : Bool) → add (g ∷ cut_behind takes (h ++ y ∷ []) ys) x ≡ g ∷ add (cut_behind takes (h ++ y ∷ []) ys) x
          → add (g ∷ cond b (cut_behind takes (h ++ y ∷ []) ys) (h ∷ cut_behind takes (y ∷ []) ys)) x ≡ g ∷ add (cond b (cut_behind takes (h ++ y ∷ []) ys) (h ∷ cut_behind takes (y ∷ []) ys)) x
      by true k = k
      by false k = refl

  behind_more : (g xs : List A) (x : A) → cut_behind takes g (xs ++ x ∷ []) ≡ add (cut_behind takes g xs) x
  behind_more g [] x = refl
  behind_more g (y ∷ ys) x = by (takes g y) (behind_more (g ++ y ∷ []) ys x) (behind_more (y ∷ []) ys x)
    where
      by : (b : Bool) → cut_behind takes (g ++ y ∷ []) (ys ++ x ∷ []) ≡ add (cut_behind takes (g ++ y ∷ []) ys) x → cut_behind takes (y ∷ []) (ys ++ x ∷ []) ≡ add (cut_behind takes (y ∷ []) ys) x
          → cond b (cut_behind takes (g ++ y ∷ []) (ys ++ x ∷ [])) (g ∷ cut_behind takes (y ∷ []) (ys ++ x ∷ [])) ≡ add (cond b (cut_behind takes (g ++ y ∷ []) ys) (g ∷ cut_behind takes (y ∷ []) ys)) x
      by true h k = h
      by false h k = ap (λ l. g ∷ l) k ∙ sym (add_skips g (y ∷ []) ys x)

  pub cut_more : (xs : List A) (x : A) → cut takes (xs ++ x ∷ []) ≡ add (cut takes xs) x
  cut_more [] x = refl
  cut_more (y ∷ ys) x = behind_more (y ∷ []) ys x

  pub add_end : (front : List (List A)) (g : List A) (x : A) → add (front ++ g ∷ []) x ≡ front ++ cond (takes g x) ((g ++ x ∷ []) ∷ []) (g ∷ (x ∷ []) ∷ [])
  add_end [] g x = refl
  add_end (f ∷ []) g x = refl
  add_end (f ∷ h ∷ front) g x = ap (λ l. f ∷ l) (add_end (h ∷ front) g x)

-- ---- drafts

drafts_append : (n : ℕ) (gs hs : List (List Captured)) → drafts n (gs ++ hs) ≡ drafts n gs ++ drafts (n + length (joined gs)) hs
drafts_append n [] hs = let same : n ≡ n + 0 = omega arith in ap (λ m. drafts m hs) same
drafts_append n (g ∷ gs) hs =
    let size : (n + length g) + length (joined gs) ≡ n + length (joined (g ∷ gs)) = omega (arith, length-append g (joined gs)) in
    ap (λ l. draft_of n g ++ l) (drafts_append (n + length g) gs hs ∙ ap (λ m. drafts (n + length g) gs ++ drafts m hs) size)
    ∙ sym (append_assoc (draft_of n g) (drafts (n + length g) gs) (drafts (n + length (joined (g ∷ gs))) hs))

one_more_end : (rs : List RecordPlace) (r : RecordPlace) → one_more (rs ++ r ∷ []) ≡ rs ++ one_more (r ∷ [])
one_more_end [] r = refl
one_more_end (q ∷ []) r = refl
one_more_end (q ∷ s ∷ rs) r = ap (λ l. q ∷ l) (one_more_end (s ∷ rs) r)

last_count_end : (rs : List RecordPlace) (r : RecordPlace) → last_count (rs ++ r ∷ []) ≡ r.count
last_count_end [] r = refl
last_count_end (q ∷ []) r = refl
last_count_end (q ∷ s ∷ rs) r = last_count_end (s ∷ rs) r

abbrev first_draft : ℕ → Captured → List Captured → RecordPlace
first_draft n c cs = record { stamp = c.change.stamp; first = n; count = length (c ∷ cs); sequence = 0; is_last = false; records_in_tx = 0; parts_in_tx = 0 }

-- ---- groups and their drafts with one change more

pub record Grows (n : ℕ) (gs : List (List Captured)) (first : Option Captured) (c : Captured) : Type 0 where
  pub open_is : grown (goes_on first (drafts n gs) c) (drafts n gs) (n + length (joined gs)) c ≡ drafts n (add joins gs c)
  pub opens : Opens (add joins gs c) (first_behind (goes_on first (drafts n gs) c) first c)

grows_empty : (n : ℕ) (c : Captured) → Grows n [] None c
grows_empty n c = record {
  open_is = let same : n + 0 ≡ n = omega arith in ap (λ m. draft_of m (c ∷ [])) same;
  opens = ([], [], refl);
}

module _ (n : ℕ) (front : List (List Captured)) (f : Captured) (more : List Captured) (c : Captured) where
  abbrev g : List Captured
  g = f ∷ more

  abbrev m : ℕ
  m = n + length (joined front)

  split : drafts n (front ++ g ∷ []) ≡ drafts n front ++ first_draft m f more ∷ []
  split = drafts_append n front (g ∷ [])

  count_is : last_count (drafts n (front ++ g ∷ [])) ≡ length g
  count_is = ap last_count split ∙ last_count_end (drafts n front) (first_draft m f more)

  same_test : goes_on (Some f) (drafts n (front ++ g ∷ [])) c ≡ joins g c
  same_test = ap (λ k. is_alike f c && nat_lt k 32) count_is

  size : n + length (joined (front ++ g ∷ [])) ≡ m + length g
  size = ap (λ l. n + length l) (flat_map-append (λ (x : List Captured). x) front (g ∷ [])) ∙ omega (arith, length-append (joined front) (joined (g ∷ [])), length-append g [])

  grows_by : (b : Bool) → joins g c ≡ b → Grows n (front ++ g ∷ []) (Some f) c
  grows_by true e =
      let t : goes_on (Some f) (drafts n (front ++ g ∷ [])) c ≡ true = same_test ∙ e in
      let after : add joins (front ++ g ∷ []) c ≡ front ++ (g ++ c ∷ []) ∷ [] = add_end joins front g c ∙ ap (λ b. front ++ cond b ((g ++ c ∷ []) ∷ []) (g ∷ (c ∷ []) ∷ [])) e in
      let long : suc (length g) ≡ length (g ++ c ∷ []) = omega (arith, length-append g (c ∷ [])) in
      record {
        open_is =
            ap (λ b. grown b (drafts n (front ++ g ∷ [])) (n + length (joined (front ++ g ∷ []))) c) t
            ∙ ap one_more split
            ∙ one_more_end (drafts n front) (first_draft m f more)
            ∙ ap (λ k. drafts n front ++ record { stamp = f.change.stamp; first = m; count = k; sequence = 0; is_last = false; records_in_tx = 0; parts_in_tx = 0 } ∷ []) long
            ∙ sym (drafts_append n front ((g ++ c ∷ []) ∷ []))
            ∙ ap (drafts n) (sym after);
        opens = subst (λ b. Opens (add joins (front ++ g ∷ []) c) (first_behind b (Some f) c)) (sym t) (front, more ++ c ∷ [], after);
      }
  grows_by false e =
      let t : goes_on (Some f) (drafts n (front ++ g ∷ [])) c ≡ false = same_test ∙ e in
      let after : add joins (front ++ g ∷ []) c ≡ front ++ g ∷ (c ∷ []) ∷ [] = add_end joins front g c ∙ ap (λ b. front ++ cond b ((g ++ c ∷ []) ∷ []) (g ∷ (c ∷ []) ∷ [])) e in
      let again : (front ++ g ∷ []) ++ (c ∷ []) ∷ [] ≡ front ++ g ∷ (c ∷ []) ∷ [] = append_assoc front (g ∷ []) ((c ∷ []) ∷ []) in
      record {
        open_is =
            ap (λ b. grown b (drafts n (front ++ g ∷ [])) (n + length (joined (front ++ g ∷ []))) c) t
            ∙ sym (drafts_append n (front ++ g ∷ []) ((c ∷ []) ∷ []))
            ∙ ap (drafts n) (again ∙ sym after);
        opens = subst (λ b. Opens (add joins (front ++ g ∷ []) c) (first_behind b (Some f) c)) (sym t) (front ++ g ∷ [], [], after ∙ sym again);
      }

pub grows : (n : ℕ) (gs : List (List Captured)) (first : Option Captured) (c : Captured) → Opens gs first → Grows n gs first c
grows n gs None c h = subst (λ l. Grows n l None c) (sym h) (grows_empty n c)
grows n gs (Some f) c h = subst (λ l. Grows n l (Some f) c) (sym h.2) (grows_by n h.0 f h.1 c (joins (f ∷ h.1) c) refl)

-- ---- a line with one change more

held_more : (part : Part) (xs : List Captured) (c : Captured) → is_held part (place_of c.change.row) c.change.stamp ≡ true → held part (xs ++ c ∷ []) ≡ held part xs ++ c ∷ []
held_more part xs c e = filter-append (λ x. is_held part (place_of x.change.row) x.change.stamp) xs (c ∷ []) ∙ ap (λ b. held part xs ++ cond b (c ∷ []) []) e

held_same : (part : Part) (xs : List Captured) (c : Captured) → is_held part (place_of c.change.row) c.change.stamp ≡ false → held part (xs ++ c ∷ []) ≡ held part xs
held_same part xs c e = filter-append (λ x. is_held part (place_of x.change.row) x.change.stamp) xs (c ∷ []) ∙ ap (λ b. held part xs ++ cond b (c ∷ []) []) e ∙ append-nil (held part xs)

places_more : (part : Part) (k : ℕ) (xs : List Captured) (c : Captured) → places_held part k (xs ++ c ∷ []) ≡ places_held part k xs ++ cond (is_held part (place_of c.change.row) c.change.stamp) ((k + length xs) ∷ []) []
places_more part k [] c = let same : k ≡ k + 0 = omega arith in by (is_held part (place_of c.change.row) c.change.stamp) same
  where
    by : (b : Bool) → k ≡ k + 0 → cond b (k ∷ []) [] ≡ cond b ((k + 0) ∷ []) []
    by true e = ap (λ m. m ∷ []) e
    by false e = refl
places_more part k (x ∷ xs) c =
    let same : suc k + length xs ≡ k + suc (length xs) = omega arith in
    by (is_held part (place_of x.change.row) x.change.stamp) (places_more part (suc k) xs c ∙ ap (λ m. places_held part (suc k) xs ++ cond (is_held part (place_of c.change.row) c.change.stamp) (m ∷ []) []) same)
  where
    by : (b : Bool) → places_held part (suc k) (xs ++ c ∷ []) ≡ places_held part (suc k) xs ++ cond (is_held part (place_of c.change.row) c.change.stamp) ((k + suc (length xs)) ∷ []) []
        → cond b (k ∷ places_held part (suc k) (xs ++ c ∷ [])) (places_held part (suc k) (xs ++ c ∷ [])) ≡ cond b (k ∷ places_held part (suc k) xs) (places_held part (suc k) xs) ++ cond (is_held part (place_of c.change.row) c.change.stamp) ((k + suc (length xs)) ∷ []) []
    by true h = ap (λ l. k ∷ l) h
    by false h = h

places_more_0 : (part : Part) (xs : List Captured) (c : Captured) → places_held part 0 (xs ++ c ∷ []) ≡ places_held part 0 xs ++ cond (is_held part (place_of c.change.row) c.change.stamp) (length xs ∷ []) []
places_more_0 part xs c =
    let same : 0 + length xs ≡ length xs = omega arith in
    places_more part 0 xs c ∙ ap (λ k. places_held part 0 xs ++ cond (is_held part (place_of c.change.row) c.change.stamp) (k ∷ []) []) same

pub size_of_places : (part : Part) (items : List Captured) → length (places_held part 0 items) ≡ length (held part items)
size_of_places part items = picks_count items (places_held part 0 items) (held part items) (held_picks part [] items 0 refl)

module _ (parts : List Part) (part : Part) (done : List (List Captured)) (now : List Captured) (c : Captured) where
  abbrev items : List Captured
  items = joined done ++ now

  abbrev base : ℕ
  base = length (held part (joined done))

  pub line_more : (line : Line) → IsLine parts part items done now line → is_held part (place_of c.change.row) c.change.stamp ≡ true → IsLine parts part (items ++ c ∷ []) done (now ++ c ∷ []) (with_change line (length items) c)
  line_more line L h =
      let gs = groups (held part now) in
      let G = grows base gs line.first c L.first in
      let next : groups (held part (now ++ c ∷ [])) ≡ add joins gs c = ap groups (held_more part now c h) ∙ cut_more joins (held part now) c in
      let count : length line.changes ≡ base + length (joined gs) =
      ap length L.changes ∙ size_of_places part items ∙ ap length (filter-append (λ x. is_held part (place_of x.change.row) x.change.stamp) (joined done) now)
      ∙ length-append (held part (joined done)) (held part now) ∙ ap (λ l. base + length l) (sym (whole joins (held part now))) in
      record {
        changes = ap (λ l. l ++ length items ∷ []) L.changes ∙ sym (places_more_0 part items c ∙ ap (λ b. places_held part 0 items ++ cond b (length items ∷ []) []) h);
        records = L.records;
        opened = (λ i. grown (goes_on line.first (L.opened i) c) (L.opened i) (count i) c) ∙ G.open_is ∙ ap (drafts base) (sym next);
        first = subst (λ l. Opens l (first_behind (goes_on line.first line.opened c) line.first c)) (sym next) (subst (λ o. Opens (add joins gs c) o) (sym (ap (λ l. first_behind (goes_on line.first l c) line.first c) L.opened)) G.opens);
      }

  pub line_same : (line : Line) → IsLine parts part items done now line → is_held part (place_of c.change.row) c.change.stamp ≡ false → IsLine parts part (items ++ c ∷ []) done (now ++ c ∷ []) line
  line_same line L h =
      let same : held part (now ++ c ∷ []) ≡ held part now = held_same part now c h in
      record {
        changes = L.changes ∙ sym (append-nil (places_held part 0 items)) ∙ sym (places_more_0 part items c ∙ ap (λ b. places_held part 0 items ++ cond b (length items ∷ []) []) h);
        records = L.records;
        opened = L.opened ∙ ap (λ l. drafts base (groups l)) (sym same);
        first = subst (λ l. Opens (groups l) line.first) (sym same) L.first;
      }

-- ---- a line at the end of a transaction

places_append : (parts : List Part) (part : Part) (n : ℕ) (txs more : List (List Captured)) → record_places parts part n (txs ++ more) ≡ record_places parts part n txs ++ record_places parts part (n + length (held part (joined txs))) more
places_append parts part n [] more = let same : n ≡ n + 0 = omega arith in ap (λ m. record_places parts part m more) same
places_append parts part n (tx ∷ txs) more =
    let size : (n + length (held part tx)) + length (held part (joined txs)) ≡ n + length (held part (joined (tx ∷ txs))) =
    omega (arith, length-append (held part tx) (held part (joined txs))) ∙ ap (λ l. n + length l) (sym (filter-append (λ x. is_held part (place_of x.change.row) x.change.stamp) tx (joined txs))) in
    ap (λ l. tx_places parts part n tx ++ l) (places_append parts part (n + length (held part tx)) txs more ∙ ap (λ m. record_places parts part (n + length (held part tx)) txs ++ record_places parts part m more) size)
    ∙ sym (append_assoc (tx_places parts part n tx) (record_places parts part (n + length (held part tx)) txs) (record_places parts part (n + length (held part (joined (tx ∷ txs)))) more))

pub records_behind : (parts : List Part) (part : Part) (done : List (List Captured)) (now : List Captured)
    → record_places parts part 0 (done ++ now ∷ []) ≡ record_places parts part 0 done ++ finished (count_of parts now) (first_sequence parts now part) (drafts (length (held part (joined done))) (groups (held part now)))
records_behind parts part done now =
    let same : 0 + length (held part (joined done)) ≡ length (held part (joined done)) = omega arith in
    places_append parts part 0 done (now ∷ []) ∙ ap (λ m. record_places parts part 0 done ++ record_places parts part m (now ∷ [])) same ∙ ap (λ l. record_places parts part 0 done ++ l) (append-nil (tx_places parts part (length (held part (joined done))) now))

pub starts_empty : StartsEmpty
starts_empty parts part = record { changes = refl; records = refl; opened = refl; first = refl }

pub takes_held : TakesHeld
takes_held parts part done now c line L h = line_more parts part done now c line L h

pub passes_other : PassesOther
passes_other parts part done now c line L h = line_same parts part done now c line L h

pub ends_whole : EndsWhole
ends_whole parts part done now line L = record {
  changes = L.changes;
  records = (λ i. L.records i ++ finished (count_of parts now) (first_sequence parts now part) (L.opened i)) ∙ sym (records_behind parts part done now);
  opened = refl;
  first = refl;
}

pub cuts_transactions : CutsTransactions
cuts_transactions items done now c h = cut_more goes_on_with items c ∙ ap (λ l. add goes_on_with l c) h ∙ add_end goes_on_with done now c
