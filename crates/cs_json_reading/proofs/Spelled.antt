-- A line is read as the record that it stands for, and stands for the record that it is read as.
use Rattle.std.proofs.Common.{◌≡◌, ◌<◌, ◌≤◌, ℕ, List, length, Bool, true, false, is_some, nat_lt, Option, None, Some, Ok, Err, IfOk, MatchResult, refl, ap, sym, ◌∙◌, arith, IsUtf8}
use Rattle.std.specs.Str.{is_utf8}
use Rattle.std.proofs.lemmas.Str.{IsUtf8-from_is_utf8}
use Rattle.serde_json.specs.Data.{Data}
use Rattle.serde_json.specs.Find.{as_object}
use Rattle.serde_json.specs.Read.{read}
use Rattle.cs_records.specs.declared.faults.LineFault.TheVariants.{NotJson, Member, ArrayCount, BadValue, TooLong, Memory}
use Rattle.cs_records.specs.declared.faults.LineFault.{LineFault}
use Rattle.cs_records.specs.declared.records.Record.{Record}
use Rattle.cs_json_reading.specs.Reading.{Reading, Gives, not_memory}
use Rattle.cs_json_reading.specs.Line.{object_reading, of_tree, bytes_reading, line_reading, line_end, Spells}
use Rattle.cs_json_reading.proofs.LinesTold.{tells_if_read, read_if_tells}
use Rattle.cs_json_reading.proofs.Lines.{too_long, short_enough, bytes_text}

abbrev read_to : Record → Reading Record
read_to r = Ok r

abbrev no_json : Reading Record
no_json = Err NotJson

abbrev long : Reading Record
long = Err TooLong

same_record : (r s : Record) → read_to r ≡ read_to s → r ≡ s
same_record r s e = cc

no_record : (r : Record) → no_json ≡ read_to r → ⊥
no_record r e = cc

not_short : (r : Record) → long ≡ read_to r → ⊥
not_short r e = cc

pub read_as : (r : Record) (t : List ℕ) → Spells r t → bytes_reading t ≡ Ok r
read_as r t s = bytes_text t s.text ∙ ap of_tree s.json ∙ rw s.object (read_if_tells s.tree r s.tells)

-- of an object, its record
of_object : (r : Record) (t : List ℕ) (d : Data) → IsUtf8 t → read t ≡ Some d → (b : Bool) → is_some (as_object d) ≡ b → object_reading d ≡ Ok r → Spells r t
of_object r t d is e true o h = record { text = is; tree = d; json = e; object = o; tells = tells_if_read d r (rw o at h) }
of_object r t d is e false o h = absurd (no_record r (rw o at h))

of_json : (r : Record) (t : List ℕ) → IsUtf8 t → (o : Option Data) → read t ≡ o → of_tree o ≡ Ok r → Spells r t
of_json r t is None e h = absurd (no_record r h)
of_json r t is (Some d) e h = of_object r t d is e (is_some (as_object d)) refl h

of_bytes : (r : Record) (t : List ℕ) (b : Bool) → is_utf8 t ≡ b → bytes_reading t ≡ Ok r → Spells r t
unfolding bytes_reading
of_bytes r t true e h = of_json r t (IsUtf8-from_is_utf8 t e) (read t) refl (rw e at h)
of_bytes r t false e h = absurd (no_record r (rw e at h))

pub spelled : (r : Record) (t : List ℕ) → bytes_reading t ≡ Ok r → Spells r t
spelled r t h = of_bytes r t (is_utf8 t) refl h

-- a line stands for one record at most
pub one_record : (t : List ℕ) (r s : Record) → Spells r t → Spells s t → r ≡ s
one_record t r s one other = same_record r s (sym (read_as r t one) ∙ read_as s t other)

short_if_read : (t : List ℕ) (r : Record) → line_reading t ≡ Ok r → length t ≤ line_end
short_if_read t r h = at (nat_lt 8388608 (length t)) refl
  where
    at : (b : Bool) → nat_lt 8388608 (length t) ≡ b → length t ≤ 8388608
    at true e = absurd (not_short r (sym (too_long t (let lt : 8388608 < length t = grind (arith, e) in lt)) ∙ h))
    at false e = grind (arith, e)

-- what an answer says of its line, where it is what is read
pub short_answer : (t : List ℕ) (x : Reading Record) → Gives x (line_reading t) → IfOk x (λ _. length t ≤ line_end)
short_answer t (Ok r) h = short_if_read t r h
short_answer t (Err e) h = tt

pub spelled_answer : (t : List ℕ) (x : Reading Record) → Gives x (line_reading t) → IfOk x (λ r. Spells r t)
spelled_answer t (Ok r) h = spelled r t (sym (short_enough t (short_if_read t r h)) ∙ h)
spelled_answer t (Err e) h = tt

only_memory : (t : List ℕ) (e : LineFault) (r : Record) → (not_memory e → line_reading t ≡ Err e) → line_reading t ≡ Ok r → e ≡ Memory
only_memory t Memory r h reads = refl
only_memory t NotJson r h reads = absurd (no_record r (sym (h tt) ∙ reads))
only_memory t TooLong r h reads = absurd (not_short r (sym (h tt) ∙ reads))
only_memory t ArrayCount r h reads = absurd (let both = sym (h tt) ∙ reads in cc)
only_memory t (Member name) r h reads = absurd (let both = sym (h tt) ∙ reads in cc)
only_memory t (BadValue name) r h reads = absurd (let both = sym (h tt) ∙ reads in cc)

pub all_answered : (t : List ℕ) (x : Reading Record) → Gives x (line_reading t) → (r : Record) → Spells r t → length t ≤ line_end → MatchResult x (λ s. s ≡ r) (λ e. e ≡ Memory)
all_answered t (Ok s) h r spells short = same_record s r (sym h ∙ short_enough t short ∙ read_as r t spells)
all_answered t (Err e) h r spells short = only_memory t e r h (short_enough t short ∙ read_as r t spells)
