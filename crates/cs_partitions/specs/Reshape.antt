-- A reshape of a layout: neighbouring parts end, and new parts with other borders follow them, as in Spanner's splits and merges of partitions.
use Rattle.std.specs.Prelude.{ℕ, suc, List, [], ◌∷◌, ◌++◌, map, filter, length, Bool, ◌&&◌, cond, Option, None, Some}
use Rattle.cs_types.specs.Names.{is_same, is_among}
use Rattle.cs_place.specs.declared.place.Place.{Place}
use Rattle.cs_place.specs.declared.part.Range.{Range}
use Rattle.cs_place.specs.declared.part.Part.{Part}
use Rattle.cs_place.specs.Part.{is_below_high}
use Rattle.cs_partitions.specs.Tokens.{token_of}
use Rattle.cs_partitions.specs.Layout.{StreamParts, all_places}

-- the part of a token, the first where there are several
abbrev pub part_named : List ℕ → List Part → Option Part
part_named token [] = None
part_named token (p ∷ ps) = cond (is_same p.token token) (Some p) (part_named token ps)

-- the index behind one
abbrev pub next_index : Option ℕ → Option ℕ
next_index None = None
next_index (Some i) = Some (suc i)

-- the index of the part of a token, the first where there are several
abbrev pub index_named : List ℕ → List Part → Option ℕ
index_named token [] = None
index_named token (p ∷ ps) = cond (is_same p.token token) (Some 0) (next_index (index_named token ps))

-- one more where there is one
abbrev pub and_then : Option Part → List Part → List Part
and_then None ps = ps
and_then (Some p) ps = p ∷ ps

-- the parts of these tokens, in the order of the tokens
abbrev pub parts_named : List (List ℕ) → List Part → List Part
parts_named [] parts = []
parts_named (t ∷ ts) parts = and_then (part_named t parts) (parts_named ts parts)

-- the end of the last of these ranges, each of which follows the one before
abbrev pub last_high : Option Place → List Part → Option Place
last_high high [] = high
last_high high (p ∷ ps) = last_high p.range.high ps

-- the range of neighbours: from the low of the first to the end of the last
abbrev pub joined_range : List Part → Range
joined_range [] = all_places
joined_range (p ∷ ps) = record { low = p.range.low; high = last_high p.range.high ps }

-- the ranges that borders divide the places between two ends into
abbrev pub ranges_between : Place → List Place → Option Place → List Range
ranges_between low [] high = record { low = low; high = high } ∷ []
ranges_between low (b ∷ bs) high = record { low = low; high = Some b } ∷ ranges_between b bs high

-- whether two ranges have a place in common: each begins below the other's end
abbrev pub do_meet : Range → Range → Bool
do_meet a b = is_below_high a.low b.high && is_below_high b.low a.high

-- the tokens of those of the parts whose range meets this one, in their order
abbrev pub parents_of : Range → List Part → List (List ℕ)
parents_of range parts = map (λ p. p.token) (filter (λ p. do_meet p.range range) parts)

-- a part that follows those of the named parts that it has places of
abbrev pub follower : List ℕ → ℕ → List Part → ℕ → Range → Part
follower stream at named number range = record {
  token = token_of stream number;
  parents = parents_of range named;
  range = range;
  from = at;
  until = None;
}

-- such parts, one for each range, numbered on
abbrev pub followers : List ℕ → ℕ → List Part → ℕ → List Range → List Part
followers stream at named number [] = []
followers stream at named number (r ∷ rs) = follower stream at named number r ∷ followers stream at named (suc number) rs

-- a part that is named ends at the moment, any other is as it was
abbrev pub with_end : List (List ℕ) → ℕ → Part → Part
with_end tokens at p = cond (is_among p.token tokens) (record p { until = Some at }) p

-- the new parts of a reshape: those between the borders, in the range of the named parts
abbrev pub new_parts : List ℕ → List Part → ℕ → List (List ℕ) → List Place → List Part
new_parts stream parts at tokens borders =
    let named = parts_named tokens parts in
    let joined = joined_range named in
    followers stream at named (length parts) (ranges_between joined.low borders joined.high)

-- the layout behind a reshape: the named parts end at the moment, and the new parts stand behind all others
abbrev pub reshaped : StreamParts → ℕ → List (List ℕ) → List Place → StreamParts
reshaped l at tokens borders = record l { parts = map (with_end tokens at) l.parts ++ new_parts l.stream l.parts at tokens borders }
