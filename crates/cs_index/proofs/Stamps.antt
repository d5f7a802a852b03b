-- The places of a part's records have the stamps of its data records, which do not fall.
use Rattle.std.proofs.Common.{◌≡◌, ℕ, zero, suc, ◌+◌, ◌<◌, ◌≤◌, Bool, true, false, cond, List, [], ◌∷◌, ◌++◌, length, map, filter, flat_map, get_or, Option, None, Some, refl, sym, ap, ◌∙◌, subst, arith, append_assoc}
use Rattle.std.specs.Prelude.{⊤}
use Rattle.std.specs.List.{cons_option}
use Rattle.std.specs.List.Sorted.{IsNonDecreasingBy}
use Rattle.std.proofs.lemmas.List.{map-append}
use Rattle.std.proofs.lemmas.List.Elements.{filter-append}
use Rattle.cs_place.specs.declared.part.Part.{Part}
use Rattle.cs_place.specs.Part.{is_held}
use Rattle.cs_records.specs.declared.captured.Captured.{Captured}
use Rattle.cs_records.specs.declared.records.DataRecord.{DataRecord}
use Rattle.cs_link.specs.Feed.{place_of}
use Rattle.cs_schema.specs.declared.types.Table.{Table}
use Rattle.cs_schema.specs.declared.types.Stream.{Stream}
use Rattle.cs_txn.specs.declared.txn.Modification.{Modification}
use Rattle.cs_txn.specs.History.{stamp_behind, last_stamp, EachFollows}
use Rattle.cs_steps.specs.declared.places.RecordPlace.{RecordPlace}
use Rattle.cs_steps.specs.Captures.{captured_since, captured_items}
use Rattle.cs_steps.specs.Cutting.{joined}
use Rattle.cs_steps.specs.Index.{drafts, finished, tx_places, record_places}
use Rattle.cs_steps.specs.Records.{held, groups, Count, count_of, first_sequence, numbered, records_in}
use Rattle.cs_index.proofs.Counts.{joined_cut}
use Rattle.cs_index.proofs.Sources.{since_of}

-- ---- the stamps

group_stamps : (count more : Count) (s t n : ℕ) (gs : List (List Captured)) → map (λ (p : RecordPlace). p.stamp) (finished count s (drafts n gs)) ≡ map (λ (d : DataRecord). d.stamp) (numbered more t gs)
group_stamps count more s t n [] = refl
group_stamps count more s t n ([] ∷ gs) = group_stamps count more s (suc t) (n + 0) gs
group_stamps count more s t n ((c ∷ cs) ∷ gs) = ap (λ l. c.change.stamp ∷ l) (group_stamps count more (suc s) (suc t) (n + length (c ∷ cs)) gs)

pub place_stamps : (parts : List Part) (part : Part) (n : ℕ) (txs : List (List Captured)) → map (λ (p : RecordPlace). p.stamp) (record_places parts part n txs) ≡ map (λ (d : DataRecord). d.stamp) (flat_map (records_in parts part) txs)
place_stamps parts part n [] = refl
place_stamps parts part n (tx ∷ txs) =
    let a = group_stamps (count_of parts tx) (count_of parts tx) (first_sequence parts tx part) (first_sequence parts tx part) n (groups (held part tx)) in
    let b = place_stamps parts part (n + length (held part tx)) txs in
    map-append (λ (p : RecordPlace). p.stamp) (tx_places parts part n tx) (record_places parts part (n + length (held part tx)) txs)
    ∙ (λ i. a i ++ b i)
    ∙ sym (map-append (λ (d : DataRecord). d.stamp) (records_in parts part tx) (flat_map (records_in parts part) txs))

-- ---- their order

-- stamps from a moment on that do not fall
abbrev pub Rise : ℕ → List Captured → Type 0
Rise low [] = ⊤
Rise low (c ∷ cs) = (low ≤ c.change.stamp) × Rise c.change.stamp cs

abbrev PlacesRise : ℕ → List RecordPlace → Type 0
PlacesRise low [] = ⊤
PlacesRise low (p ∷ ps) = (low ≤ p.stamp) × PlacesRise p.stamp ps

from_lower : (low high : ℕ) (cs : List Captured) → low ≤ high → Rise high cs → Rise low cs
from_lower low high [] l h = tt
from_lower low high (c ∷ cs) l h = (let a = h.0 in omega (arith, a, l), h.1)

behind : (low : ℕ) (xs ys : List Captured) → Rise low (xs ++ ys) → Rise low ys
behind low [] ys h = h
behind low (x ∷ xs) ys h = from_lower low x.change.stamp ys h.0 (behind x.change.stamp xs ys h.1)

kept : (p : Captured → Bool) (low : ℕ) (xs : List Captured) → Rise low xs → Rise low (filter p xs)
kept p low [] h = tt
kept p low (x ∷ xs) h = by (p x) (kept p x.change.stamp xs h.1)
  where
    by : (b : Bool) → Rise x.change.stamp (filter p xs) → Rise low (cond b (x ∷ filter p xs) (filter p xs))
    by true k = (h.0, k)
    by false k = from_lower low x.change.stamp (filter p xs) h.0 k

groups_rise : (count : Count) (rest : List Captured) (more : List RecordPlace) → ((m : ℕ) → Rise m rest → PlacesRise m more) → (s n low : ℕ) (gs : List (List Captured)) → Rise low (joined gs ++ rest) → PlacesRise low (finished count s (drafts n gs) ++ more)
groups_rise count rest more k s n low [] h = k low h
groups_rise count rest more k s n low ([] ∷ gs) h = groups_rise count rest more k s (n + 0) low gs h
groups_rise count rest more k s n low ((c ∷ cs) ∷ gs) h =
    (h.0, groups_rise count rest more k (suc s) (n + length (c ∷ cs)) c.change.stamp gs (behind c.change.stamp cs (joined gs ++ rest) (subst (Rise c.change.stamp) (append_assoc cs (joined gs) rest) h.1)))

places_rise : (parts : List Part) (part : Part) (txs : List (List Captured)) (n low : ℕ) → Rise low (held part (joined txs)) → PlacesRise low (record_places parts part n txs)
places_rise parts part [] n low h = tt
places_rise parts part (tx ∷ txs) n low h =
    let parted : held part (joined (tx ∷ txs)) ≡ joined (groups (held part tx)) ++ held part (joined txs) =
    filter-append (λ c. is_held part (place_of c.change.row) c.change.stamp) tx (joined txs) ∙ ap (λ l. l ++ held part (joined txs)) (sym (joined_cut _ (held part tx))) in
    groups_rise (count_of parts tx) (held part (joined txs)) (record_places parts part (n + length (held part tx)) txs) (λ m k. places_rise parts part txs (n + length (held part tx)) m k)
    (first_sequence parts tx part) n low (groups (held part tx)) (subst (Rise low) parted h)

above : (low : ℕ) (ps : List RecordPlace) → PlacesRise low ps → (j : ℕ) (d : RecordPlace) → j < length ps → low ≤ (get_or ps j d).stamp
above low [] h j d l = absurd (omega arith)
above low (p ∷ ps) h zero d l = h.0
above low (p ∷ ps) h (suc j) d l = let a = h.0 in let b = above p.stamp ps h.1 j d (omega arith) in omega (arith, a, b)

in_order : (low : ℕ) (ps : List RecordPlace) → PlacesRise low ps → IsNonDecreasingBy (λ (p : RecordPlace). p.stamp) ps
in_order low [] h i j d le l = absurd (omega arith)
in_order low (p ∷ ps) h zero zero d le l = omega arith
in_order low (p ∷ ps) h zero (suc j) d le l = above p.stamp ps h.1 j d (omega arith)
in_order low (p ∷ ps) h (suc i) zero d le l = absurd (omega arith)
in_order low (p ∷ ps) h (suc i) (suc j) d le l = in_order p.stamp ps h.1 i j d (omega arith) (omega arith)

pub places_in_order : (parts : List Part) (part : Part) (txs : List (List Captured)) (low : ℕ) → Rise low (joined txs) → IsNonDecreasingBy (λ (p : RecordPlace). p.stamp) (record_places parts part 0 txs)
places_in_order parts part txs low h = in_order low (record_places parts part 0 txs) (places_rise parts part txs 0 low (kept (λ c. is_held part (place_of c.change.row) c.change.stamp) low (joined txs) h))

-- ---- what a stream captures of a history rises

last_is : (s : ℕ) (ms : List Modification) (m : Modification) → stamp_behind s (ms ++ m ∷ []) ≡ m.stamp
last_is s [] m = refl
last_is s (x ∷ ms) m = last_is x.stamp ms m

pub items_rise : (tables : List Table) (stream : Stream) (earlier ms : List Modification) → EachFollows earlier ms → Rise (last_stamp earlier) (captured_items tables stream ms)
items_rise tables stream earlier [] h = tt
items_rise tables stream earlier (m ∷ ms) h =
    by (captured_since tables stream m) refl (subst (λ n. Rise n (captured_items tables stream ms)) (last_is 0 earlier m) (items_rise tables stream (earlier ++ m ∷ []) ms h.1))
  where
    low : last_stamp earlier ≤ m.stamp
    low = h.0.stamp

    by : (o : Option Captured) → captured_since tables stream m ≡ o → Rise m.stamp (captured_items tables stream ms) → Rise (last_stamp earlier) (cons_option o (captured_items tables stream ms))
    by None e k = from_lower (last_stamp earlier) m.stamp (captured_items tables stream ms) low k
    by (Some c) e k =
        let s : c.change.stamp ≡ m.stamp = (since_of tables stream m c e).0.stamp in
        (omega (arith, s, low), subst (λ n. Rise n (captured_items tables stream ms)) (sym s) k)
