-- Values of one type that are written alike are one value.
use Rattle.std.proofs.Common.{◌≡◌, Ok, sym, ap, ◌∙◌}
use Rattle.cs_types.specs.declared.value.Value.{Value}
use Rattle.cs_types.specs.Database.{AreOfOneType}
use Rattle.cs_types.specs.Value.{IsInRange, Reading, value_data, value_reading}
use Rattle.cs_types.proofs.ReadBack.{reads_back}

abbrev ok : Value → Reading
ok v = Ok v

held_once : (a b : Value) → ok a ≡ ok b → a ≡ b
held_once a b e = cc

pub one_value : (a b : Value) → AreOfOneType a b → IsInRange a → IsInRange b → value_data a ≡ value_data b → a ≡ b
one_value a b (ty, of_a, of_b) range_a range_b e =
    held_once a b (sym (reads_back ty a of_a range_a) ∙ ap (value_reading ty) e ∙ reads_back ty b of_b range_b)
