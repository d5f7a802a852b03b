-- A part has at an earlier moment what it had before a reshape.
use Rattle.std.proofs.Common.{◌≡◌, ℕ, ◌<◌, Bool, true, false, cond, List, ◌++◌, map, get_or, Some, sym, subst, ◌∙◌, arith}
use Rattle.std.proofs.lemmas.List.{length-append, get_or-map, get_or_append_left}
use Rattle.cs_types.specs.Names.{is_among}
use Rattle.cs_place.specs.declared.place.Place.{Place}
use Rattle.cs_place.specs.declared.part.Part.{Part}
use Rattle.cs_place.specs.Part.{Holds}
use Rattle.cs_partitions.specs.Layout.{StreamParts}
use Rattle.cs_partitions.specs.Reshape.{with_end, new_parts, reshaped}
use Rattle.cs_partitions.specs.Views.{IsHolder}
use Rattle.cs_partitions.proofs.Indexes.{length_ends}

held_with_end : (tokens : List (List ℕ)) (at : ℕ) (p : Part) (place : Place) (moment : ℕ) → moment < at → Holds p place moment → Holds (with_end tokens at p) place moment
held_with_end tokens at p place moment early h = by (is_among p.token tokens)
  where
    by : (b : Bool) → Holds (cond b (record p { until = Some at }) p) place moment
    by true = record { inside = h.inside; live = record { born = h.live.born; lives = early } }
    by false = h

pub holder_stays : (l : StreamParts) (at : ℕ) (tokens : List (List ℕ)) (borders : List Place) (place : Place) (moment index : ℕ) → moment < at → IsHolder l.parts place moment index → IsHolder (reshaped l at tokens borders).parts place moment index
holder_stays l at tokens borders place moment index early h = record {
  inside = omega (arith, h.inside, length_ends tokens at l.parts, length-append old new);
  holds = λ d. subst (λ p. Holds p place moment) (sym (here d)) (held_with_end tokens at (get_or l.parts index d) place moment early (h.holds d));
}
  where
    old : List Part
    old = map (with_end tokens at) l.parts

    new : List Part
    new = new_parts l.stream l.parts at tokens borders

    here : (d : Part) → get_or (old ++ new) index d ≡ with_end tokens at (get_or l.parts index d)
    here d = get_or_append_left old new d index (omega (arith, h.inside, length_ends tokens at l.parts)) ∙ get_or-map (with_end tokens at) l.parts index d d h.inside
