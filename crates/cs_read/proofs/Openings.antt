-- The steps of a READ of a part, from where its children are listed.
use Rattle.std.proofs.Common.{◌≡◌, ℕ, ◌&&◌, cond, nat_le, List, [], ◌∷◌, ◌++◌, Option, None, Some, refl, sym, ap, ◌∙◌, subst}
use Rattle.std.specs.Option.{unwrap_or}
use Rattle.cs_place.specs.declared.part.Part.{Part}
use Rattle.cs_records.specs.declared.captured.Captured.{Captured}
use Rattle.cs_records.specs.declared.records.Child.{Child}
use Rattle.cs_records.specs.declared.records.DataRecord.{DataRecord}
use Rattle.cs_link.specs.declared.reading.Closing.{Closing}
use Rattle.cs_link.specs.declared.reading.Step.{Step}
use Rattle.cs_steps.specs.Cursor.{Source, steps_from, or_zero, source_of}
use Rattle.cs_steps.specs.Steps.{Asked, has_ended, children_of}

-- where no child is listed, it is the same from when on
same_from : (records : List DataRecord) (kids : List Child) (gap top start : ℕ) (closing : Closing) (end moment : ℕ) (until : Option ℕ) (other : ℕ)
    → steps_from (record { records = records; start = unwrap_or until other; children = cond (has_ended end moment until) kids [] }) gap top start closing ≡ steps_from (record { records = records; start = or_zero until; children = cond (has_ended end moment until) kids [] }) gap top start closing
same_from records kids gap top start closing end moment None other = refl
same_from records kids gap top start closing end moment (Some until) other = refl

pub opened_as : (parts : List Part) (items : List Captured) (a : Asked) (records : List DataRecord) (from : ℕ) (children : List Child) (gap top : ℕ) (start : ℕ) (closing : Closing) (other : ℕ)
    → records ≡ (source_of parts items a).records → from ≡ unwrap_or a.part.until other → children ≡ (source_of parts items a).children
    → steps_from (record { records = records; start = from; children = children }) gap top start closing ≡ steps_from (source_of parts items a) gap top start closing
opened_as parts items a records from children gap top start closing other r f k =
    (λ i. steps_from (record { records = r i; start = f i; children = k i }) gap top start closing)
    ∙ same_from (source_of parts items a).records (children_of parts a.part) gap top start closing a.end a.moment a.part.until other
