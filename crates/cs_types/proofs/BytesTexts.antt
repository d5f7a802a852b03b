-- A text is read as BYTES exactly where it is the one text of these bytes.
use Rattle.std.proofs.Common.{◌≡◌, ◌↔◌, List, ℕ, Result, Ok, Err, ap, rules}
use Rattle.base64.specs.Engines.{standard}
use Rattle.base64.specs.GeneralPurpose.{encode_of, decode_of, IsBytes, IsStrict}
use Rattle.base64.proofs.EngineFacts.{decode_of_iff}
use Rattle.cs_types.specs.declared.value.Value.TheVariants.{Bytes}
use Rattle.cs_types.specs.Value.{Reading, of_decoded, bytes_reading}

abbrev read_as : List ℕ → Reading
read_as b = Ok (Bytes b)

decoded_is : {E : Type 0} (r : Result (List ℕ) E) (b : List ℕ) → of_decoded r ≡ Ok (Bytes b) → r ≡ Ok b
decoded_is (Ok a) b e = ap Ok (same a b e)
  where
    same : (a b : List ℕ) → read_as a ≡ read_as b → a ≡ b
    same a b e = cc
decoded_is (Err f) b e = absurd cc

strict : IsStrict standard
strict = search rules

pub bytes_told : (text bytes : List ℕ) → IsBytes text → IsBytes bytes → (bytes_reading text ≡ Ok (Bytes bytes)) ↔ (text ≡ encode_of standard bytes)
bytes_told text bytes of_text of_bytes =
    let told = decode_of_iff standard text bytes strict of_text of_bytes in
    ((λ e. told.0 (decoded_is (decode_of standard text) bytes e)), λ e. ap of_decoded (told.1 e))
