-- A reshape that is not refused makes a layout of a layout.
use Rattle.std.proofs.Common.{◌≡◌, ℕ, suc, ◌+◌, ◌≤◌, true, not, nat_lt, List, [], ◌∷◌, ◌++◌, map, length, None, sym, refl, ◌∙◌, subst, arith}
use Rattle.std.proofs.lemmas.Bool.Decides.{nat_tests}
use Rattle.std.proofs.lemmas.List.{length-append}
use Rattle.cs_place.specs.declared.place.Place.{Place}
use Rattle.cs_place.specs.declared.part.Range.{Range}
use Rattle.cs_place.specs.declared.part.Part.{Part}
use Rattle.cs_partitions.specs.Tokens.{AreNumbered}
use Rattle.cs_partitions.specs.Layout.{StreamParts, IsLayout}
use Rattle.cs_partitions.specs.Reshape.{parts_named, joined_range, ranges_between, followers, with_end, new_parts, reshaped}
use Rattle.cs_partitions.specs.Fault.{first_fault}
use Rattle.cs_partitions.proofs.Runs.{length_followers, length_between}
use Rattle.cs_partitions.proofs.Numbering.{numbered_differ, numbered_append}
use Rattle.cs_partitions.proofs.Sound.{is_applied, same_part, length_same, sound_after, cut_of}
use Rattle.cs_partitions.proofs.Families.{children_after, parents_after}

numbered_ends : (stream : List ℕ) (n : ℕ) (tokens : List (List ℕ)) (at : ℕ) (ps : List Part) → AreNumbered stream n ps → AreNumbered stream n (map (with_end tokens at) ps)
numbered_ends stream n tokens at [] h = tt
numbered_ends stream n tokens at (p ∷ ps) h = ((same_part tokens at p).token ∙ h.0, numbered_ends stream (suc n) tokens at ps h.1)

numbered_new : (stream : List ℕ) (at : ℕ) (named : List Part) (n : ℕ) (rs : List Range) → AreNumbered stream n (followers stream at named n rs)
numbered_new stream at named n [] = tt
numbered_new stream at named n (r ∷ rs) = (refl, numbered_new stream at named (suc n) rs)

pub numbered_after : (l : StreamParts) (at : ℕ) (tokens : List (List ℕ)) (borders : List Place) → AreNumbered l.stream 0 l.parts → AreNumbered l.stream 0 (reshaped l at tokens borders).parts
numbered_after l at tokens borders h =
    let named = parts_named tokens l.parts in
    let joined = joined_range named in
    let level : length l.parts ≡ 0 + length (map (with_end tokens at) l.parts) = omega (arith, length_same tokens at l.parts) in
    numbered_append l.stream 0 (map (with_end tokens at) l.parts) (new_parts l.stream l.parts at tokens borders) (numbered_ends l.stream 0 tokens at l.parts h)
    (subst (λ n. AreNumbered l.stream n (new_parts l.stream l.parts at tokens borders)) level (numbered_new l.stream at named (length l.parts) (ranges_between joined.low borders joined.high)))

pub length_new : (l : StreamParts) (at : ℕ) (tokens : List (List ℕ)) (borders : List Place) → length (new_parts l.stream l.parts at tokens borders) ≡ suc (length borders)
length_new l at tokens borders =
    let named = parts_named tokens l.parts in
    let joined = joined_range named in
    length_followers l.stream at named (length l.parts) (ranges_between joined.low borders joined.high) ∙ length_between joined.low borders joined.high

within : (a b : ℕ) → not (nat_lt a b) ≡ true → b ≤ a
within a b h = grind (arith, nat_tests)

pub layout_after : (l : StreamParts) (at : ℕ) (tokens : List (List ℕ)) (borders : List Place) → IsLayout l → first_fault l.parts at tokens borders ≡ None → IsLayout (reshaped l at tokens borders)
layout_after l at tokens borders h none =
    let ok = is_applied l at tokens borders none in
    let named = parts_named tokens l.parts in
    let joined = joined_range named in
    let numbered = numbered_after l at tokens borders h.tokens in
    let most : length l.parts + suc (length borders) ≤ 65536 = within 65536 (length l.parts + suc (length borders)) ok.count in
    let count : length (map (with_end tokens at) l.parts ++ new_parts l.stream l.parts at tokens borders) ≤ 65536 =
    omega (arith, length-append (map (with_end tokens at) l.parts) (new_parts l.stream l.parts at tokens borders), length_same tokens at l.parts, length_new l at tokens borders, most) in
    let sound = sound_after l.created at l.parts named (new_parts l.stream l.parts at tokens borders) tokens joined.low joined.high (cut_of l at tokens borders h ok) (numbered_differ l.stream (reshaped l at tokens borders).parts numbered count) in
    record {
      sound = sound;
      tokens = numbered;
      children = children_after l at tokens borders h ok;
      parents = parents_after l at tokens borders h ok sound;
      count = count;
      name = h.name;
    }

pub parts_after : (l : StreamParts) (at : ℕ) (tokens : List (List ℕ)) (borders : List Place) (ps : List Part) → IsLayout l → first_fault l.parts at tokens borders ≡ None → ps ≡ (reshaped l at tokens borders).parts → IsLayout (record l { parts = ps })
parts_after l at tokens borders ps h none e = subst (λ z. IsLayout (record l { parts = z })) (sym e) (layout_after l at tokens borders h none)
