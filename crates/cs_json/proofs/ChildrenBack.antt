-- The trees that are written for a heartbeat and for a child record read as these.
use Rattle.std.proofs.Common.{◌≡◌, ◌<◌, ℕ, List, [], ◌∷◌, map, All, codes, true, None, Some, Ok, refl}
use Rattle.serde_json.specs.Data.{string}
use Rattle.serde_json.specs.View.{items_of}
use Rattle.cs_types.specs.Stamp.{IsStamp}
use Rattle.cs_types.specs.Token.{is_token}
use Rattle.cs_records.specs.declared.records.Child.{Child}
use Rattle.cs_records.specs.declared.records.ChildRecord.{ChildRecord}
use Rattle.cs_records.specs.declared.records.Record.TheVariants.{Heartbeat, Children}
use Rattle.cs_json_reading.specs.Reading.{each}
use Rattle.cs_json_reading.specs.Members.{each_token}
use Rattle.cs_json_reading.specs.Missing.{missing_in, first_in}
use Rattle.cs_json_reading.specs.Children.{heartbeat_reading, child_reading, children_reading}
use Rattle.cs_json.specs.Written.{heartbeat_data, child_data, children_data, IsKeptChild}
use Rattle.cs_json.proofs.Resting.{Laws}
use Rattle.cs_json.proofs.Lists.{All-first, All-others}
use Rattle.cs_json.proofs.EightDigits.{sequence_written}

pub heartbeat_back : Laws → (at : ℕ) → IsStamp at → heartbeat_reading (heartbeat_data at) ≡ Ok (Heartbeat at)
unfolding heartbeat_reading
heartbeat_back laws at is = rw (laws.stamps at is) refl

tokens_back : (ts : List (List ℕ)) → All (λ t. is_token t ≡ true) ts → each_token (items_of (map string ts)) ≡ Some ts
tokens_back [] h = refl
tokens_back (t ∷ ts) h =
    let here : is_token t ≡ true = All-first (λ t. is_token t ≡ true) t ts h in
    let rest = tokens_back ts (All-others (λ t. is_token t ≡ true) t ts h) in
    rw (here, rest) refl

child_back : (c : Child) → IsKeptChild c → child_reading (child_data c) ≡ Ok c
unfolding child_reading
child_back c kept = rw (kept.token, tokens_back c.parents kept.parents) refl

each_back : (cs : List Child) → All IsKeptChild cs → each child_reading (items_of (map child_data cs)) ≡ Ok cs
each_back [] h = refl
each_back (c ∷ cs) h = rw (child_back c (All-first IsKeptChild c cs h), each_back cs (All-others IsKeptChild c cs h)) refl

pub no_child_lacks : (cs : List Child) → first_in (missing_in (codes "token" ∷ [])) (items_of (map child_data cs)) ≡ None
no_child_lacks [] = refl
no_child_lacks (c ∷ cs) = no_child_lacks cs

pub children_back : Laws → (c : ChildRecord) → IsStamp c.start → All IsKeptChild c.children → c.sequence < 100000000 → children_reading (children_data c) ≡ Ok (Children c)
unfolding children_reading
children_back laws c start kept small = rw (laws.stamps c.start start, sequence_written c.sequence small, each_back c.children kept) refl
