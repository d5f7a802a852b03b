-- Heartbeats and child records are read as what their trees tell.
use Rattle.std.proofs.Common.{◌≡◌, ℕ, List, [], ◌∷◌, codes, is_some, None, Ok, Err, refl, ap, sym}
use Rattle.serde_json.specs.Data.{Data}
use Rattle.serde_json.specs.Find.{as_array, as_object}
use Rattle.cs_records.specs.declared.records.Child.{Child}
use Rattle.cs_records.specs.declared.records.ChildRecord.{ChildRecord}
use Rattle.cs_records.specs.declared.records.Record.{Record}
use Rattle.cs_records.specs.declared.records.Record.TheVariants.{Heartbeat, Children}
use Rattle.cs_json_reading.specs.Reading.{Reading, required, optional, each_in}
use Rattle.cs_json_reading.specs.Members.{stamp_value, sequence_value, token_value, tokens_value}
use Rattle.cs_json_reading.specs.Missing.{missing_in, missing_in_children, missing_in_heartbeat}
use Rattle.cs_json_reading.specs.Children.{heartbeat_from, heartbeat_reading, child_from, child_reading, children_from, children_reading}
use Rattle.cs_json_reading.specs.Telling.{TellsHeartbeat, TellsChild, TellsChildren}
use Rattle.cs_json_reading.proofs.Told.{never, in_reading, guarded, has_if_read, read_if_has, or_if_read, read_if_or, is_there, is_object, has_each_if_read, read_if_has_each, elements_are, none_in_each}

-- ---- heartbeats

pub heartbeat_told : (d : Data) (r : Record) → heartbeat_reading d ≡ Ok r → (at : ℕ) × (r ≡ Heartbeat at) × TellsHeartbeat at d
unfolding heartbeat_reading
heartbeat_told d r h = at (required stamp_value (codes "timestamp") d) refl (guarded (is_some (as_object d)) (heartbeat_from (required stamp_value (codes "timestamp") d)) _ r h)
  where
    at : (x : Reading ℕ) → required stamp_value (codes "timestamp") d ≡ x → heartbeat_from x ≡ Ok r → (at : ℕ) × (r ≡ Heartbeat at) × TellsHeartbeat at d
    at (Err e) p h = absurd (never e r h)
    at (Ok n) p h = (n, (let same : Heartbeat n ≡ r = cc in sym same), has_if_read stamp_value (codes "timestamp") d n p)

pub heartbeat_read : (at : ℕ) (d : Data) → TellsHeartbeat at d → heartbeat_reading d ≡ Ok (Heartbeat at)
unfolding heartbeat_reading
heartbeat_read at d h = rw (is_object stamp_value (codes "timestamp") d at h, read_if_has stamp_value (codes "timestamp") d at h) refl

pub heartbeat_lacks_nothing : (at : ℕ) (d : Data) → TellsHeartbeat at d → missing_in_heartbeat d ≡ None
heartbeat_lacks_nothing at d h = rw (is_object stamp_value (codes "timestamp") d at h, is_there stamp_value (codes "timestamp") d at h) refl

-- ---- children

child_parts : (token : Reading (List ℕ)) (parents : Reading (List (List ℕ))) (c : Child) → child_from token parents ≡ Ok c → (token ≡ Ok c.token) × (parents ≡ Ok c.parents)
child_parts (Err e) parents c h = absurd (never e c h)
child_parts (Ok t) (Err e) c h = absurd (never e c h)
child_parts (Ok t) (Ok p) c h = (ap (in_reading (λ (c : Child). c.token)) h, ap (in_reading (λ (c : Child). c.parents)) h)

child_told : (d : Data) (c : Child) → child_reading d ≡ Ok c → TellsChild c d
unfolding child_reading
child_told d c h =
    let token = required token_value (codes "token") d in
    let parents = optional [] tokens_value (codes "parent_partition_tokens") d in
    let parts = child_parts token parents c (guarded (is_some (as_object d)) (child_from token parents) _ c h) in
    record { token = has_if_read token_value (codes "token") d c.token parts.0; parents = or_if_read [] tokens_value (codes "parent_partition_tokens") d c.parents parts.1 }

child_read : (d : Data) (c : Child) → TellsChild c d → child_reading d ≡ Ok c
unfolding child_reading
child_read d c h =
    rw (
      is_object token_value (codes "token") d c.token h.token,
      read_if_has token_value (codes "token") d c.token h.token,
      read_if_or [] tokens_value (codes "parent_partition_tokens") d c.parents h.parents,
    ) refl

child_lacks_nothing : (c : Child) (d : Data) → TellsChild c d → missing_in (codes "token" ∷ []) d ≡ None
child_lacks_nothing c d h = rw (is_object token_value (codes "token") d c.token h.token, is_there token_value (codes "token") d c.token h.token) refl

-- ---- child records

children_parts : (start sequence : Reading ℕ) (children : Reading (List Child)) (r : Record) → children_from start sequence children ≡ Ok r
    → (c : ChildRecord) × (r ≡ Children c) × (start ≡ Ok c.start) × (sequence ≡ Ok c.sequence) × (children ≡ Ok c.children)
children_parts (Err e) sequence children r h = absurd (never e r h)
children_parts (Ok s) (Err e) children r h = absurd (never e r h)
children_parts (Ok s) (Ok n) (Err e) r h = absurd (never e r h)
children_parts (Ok s) (Ok n) (Ok cs) r h = (record { start = s; sequence = n; children = cs }, (let same : Children (record { start = s; sequence = n; children = cs }) ≡ r = cc in sym same), refl, refl, refl)

pub children_told : (d : Data) (r : Record) → children_reading d ≡ Ok r → (c : ChildRecord) × (r ≡ Children c) × TellsChildren c d
unfolding children_reading
children_told d r h =
    let start = required stamp_value (codes "start_timestamp") d in
    let sequence = required sequence_value (codes "record_sequence") d in
    let children = each_in child_reading (required as_array (codes "child_partitions") d) in
    let parts = children_parts start sequence children r (guarded (is_some (as_object d)) (children_from start sequence children) _ r h) in (
      parts.0,
      parts.1,
      record {
        start = has_if_read stamp_value (codes "start_timestamp") d parts.0.start parts.2;
        sequence = has_if_read sequence_value (codes "record_sequence") d parts.0.sequence parts.3;
        children = has_each_if_read child_reading TellsChild child_told (codes "child_partitions") d parts.0.children parts.4;
      },
    )

pub children_read : (c : ChildRecord) (d : Data) → TellsChildren c d → children_reading d ≡ Ok (Children c)
unfolding children_reading
children_read c d h =
    rw (
      is_object stamp_value (codes "start_timestamp") d c.start h.start,
      read_if_has stamp_value (codes "start_timestamp") d c.start h.start,
      read_if_has sequence_value (codes "record_sequence") d c.sequence h.sequence,
      read_if_has_each child_reading TellsChild child_read (codes "child_partitions") d c.children h.children,
    ) refl

pub children_lack_nothing : (c : ChildRecord) (d : Data) → TellsChildren c d → missing_in_children d ≡ None
children_lack_nothing c d h =
    rw (
      is_object stamp_value (codes "start_timestamp") d c.start h.start,
      is_there stamp_value (codes "start_timestamp") d c.start h.start,
      is_there sequence_value (codes "record_sequence") d c.sequence h.sequence,
      is_there as_array (codes "child_partitions") d h.children.elements h.children.there,
      elements_are (codes "child_partitions") d h.children.elements h.children.there,
      none_in_each TellsChild (missing_in (codes "token" ∷ [])) child_lacks_nothing c.children h.children.elements h.children.each,
    ) refl
