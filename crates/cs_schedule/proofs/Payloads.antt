-- The payload of an entry of the grammar is no other entry's.
use Rattle.std.proofs.Common.{◌≡◌, sym, ap, ◌∙◌, refl}
use Rattle.std.proofs.lemmas.Option.{same_Some}
use Rattle.cs_schedule.specs.declared.entry.Entry.{Entry}
use Rattle.cs_schedule.specs.Reading.{entry_reading}
use Rattle.cs_schedule.specs.Spelling.{payload, IsInFormat}
use Rattle.cs_schedule.proofs.Entries.{is_read}

pub payload_differs : (a b : Entry) → IsInFormat a → IsInFormat b → payload a ≡ payload b → a ≡ b
payload_differs a b h k e =
    same_Some a b (sym (is_read (payload a) a (record { in_format = h; written = refl })) ∙ (ap entry_reading e ∙ is_read (payload b) b (record { in_format = k; written = refl })))
