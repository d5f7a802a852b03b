-- What a script has made is kept, and a record can name its tables and its transactions.
use Rattle.std.proofs.Common.{◌≡◌, ◌+◌, ◌≤◌, ◌&&◌, ◌==◌, ℕ, Bool, true, false, cond, nat_le, List, [], ◌∷◌, length, filter, refl, sym, subst, arith, true≢false}
use Rattle.std.proofs.lemmas.Bool.{and_from, le-leb}
use Rattle.std.proofs.lemmas.List.Elements.{All-weaker, recursion_from_All}
use Rattle.std.specs.Char.{is_ascii_alphabetic}
use Rattle.std.specs.List.{AllByRecursion}
use Rattle.cs_ddl.specs.Lex.{is_word_byte}
use Rattle.cs_schema.specs.declared.types.Table.{Table}
use Rattle.cs_txn.specs.declared.txn.Modification.{Modification}
use Rattle.cs_json_reading.specs.Texts.{is_transaction, is_letter, is_name_byte, are_name_bytes, is_name}
use Rattle.cs_script.specs.Database.{writes_at}
use Rattle.cs_script.specs.Members.{is_id}
use Rattle.cs_script.specs.Named.{IsTableName}
use Rattle.cs_answer_lines.specs.Writable.{ScriptsAreKept, ScriptsAreWritable}

-- ---- what is kept

writes_are : (stamp : ℕ) (ms : List Modification) → writes_at stamp ms ≡ length (filter (λ (m : Modification). m.stamp == stamp) ms)
writes_are stamp [] = refl
writes_are stamp (m ∷ ms) = by (m.stamp == stamp) (writes_are stamp ms)
  where
    by : (b : Bool) → writes_at stamp ms ≡ length (filter (λ (m : Modification). m.stamp == stamp) ms) → cond b 1 0 + writes_at stamp ms ≡ length (cond b (m ∷ filter (λ (m : Modification). m.stamp == stamp) ms) (filter (λ (m : Modification). m.stamp == stamp) ms))
    by true h = omega (arith, h)
    by false h = omega (arith, h)

pub scripts_kept : ScriptsAreKept
scripts_kept db kept catalog history = record {
  catalog = catalog;
  history = history;
  fits = kept.fits;
  few = λ stamp. subst (λ n. n ≤ 1024) (writes_are stamp db.modifications) (kept.few stamp);
}

-- ---- names and ids

letter_is : (b : ℕ) → is_ascii_alphabetic b ≡ true → is_letter b ≡ true
letter_is b h = grind (arith, h)

byte_is : (b : ℕ) → is_word_byte b ≡ true → is_name_byte b ≡ true
byte_is b h = grind (arith, h)

bytes_are : (bs : List ℕ) → AllByRecursion (λ b. is_word_byte b ≡ true) bs → are_name_bytes bs ≡ true
bytes_are [] h = refl
bytes_are (b ∷ bs) h = and_from (is_name_byte b) (are_name_bytes bs) (byte_is b h.0) (bytes_are bs h.1)

name_is : (name : List ℕ) → IsTableName name → is_name name ≡ true
unfolding is_name
name_is [] h = absurd (true≢false (sym h.letter))
name_is (b ∷ bs) h =
    let each : AllByRecursion (λ b. is_word_byte b ≡ true) (b ∷ bs) = recursion_from_All (λ b. is_word_byte b ≡ true) (b ∷ bs) h.word in
    and_from (is_letter b && are_name_bytes bs) (nat_le (length (b ∷ bs)) 128) (and_from (is_letter b) (are_name_bytes bs) (letter_is b h.letter) (bytes_are bs each.1)) (le-leb (length (b ∷ bs)) 128 h.most)

id_is : (id : List ℕ) → is_id id ≡ true → is_transaction id ≡ true
unfolding is_id is_transaction
id_is id h = h

pub scripts_writable : ScriptsAreWritable
scripts_writable db kept = record {
  names = All-weaker (λ (t : Table). IsTableName t.name) (λ (t : Table). is_name t.name ≡ true) (λ t h. name_is t.name h) db.tables kept.table_names;
  ids = All-weaker (λ (m : Modification). is_id m.tx ≡ true) (λ (m : Modification). is_transaction m.tx ≡ true) (λ m h. id_is m.tx h) db.modifications kept.ids;
}
