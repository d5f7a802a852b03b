-- Lists of words that are allowed.
use Rattle.std.proofs.Common.{◌≡◌, ℕ, List, [], ◌∷◌, codes, true, false, Some, refl, arith}
use Rattle.cs_types.specs.Stamp.{Spells, stamp_text}
use Rattle.cs_ddl.specs.Grammars.{queries}
use Rattle.cs_ddl.specs.Lex.{cut, kind_and_len}
use Rattle.cs_ddl.specs.Query.{Without}
use Rattle.cs_ddl.specs.Text.{IsTextOf}
use Rattle.cs_ddl.specs.declared.tree.ReadQuery.{ReadQuery}
use Rattle.cs_words.specs.Numbers.{is_name, number_reading}
use Rattle.cs_words.specs.Words.{AreWindow, AreWords}
use Rattle.cs_words.specs.declared.command.Command.TheVariants.{Gen}

abbrev pub some_stamp : ℕ
some_stamp = 1714521600000000

name_sample : is_name (codes "S") ≡ true
unfolding is_name
name_sample = refl

number_sample : number_reading (codes "10") ≡ Some 10
unfolding number_reading
number_sample = refl

pub gen_sample : AreWords (codes "gen" ∷ codes "10" ∷ [])
gen_sample = (Gen 10 false, record { number = codes "10"; are = refl; number_is = number_sample; size = record { least = omega arith; most = omega arith; even = refl } })

-- the shortest query that reads a stream
abbrev pub some_query : ReadQuery
some_query = record { function = codes "f"; arguments = [] }

abbrev pub some_query_text : List ℕ
some_query_text = codes "select changerecord from f()"

pub query_sample : IsTextOf queries some_query_text some_query
unfolding cut kind_and_len
query_sample = record {
  spelling = (codes "f", Without);
  tree = refl;
  spelled = (refl, (refl, (refl, ((refl, refl), (refl, (refl, tt))))));
}

module _ (spelled : Spells (stamp_text some_stamp) some_stamp) where
  pub window_sample : (name : List ℕ) → is_name name ≡ true → AreWindow (name ∷ stamp_text some_stamp ∷ stamp_text some_stamp ∷ [])
  window_sample name is = (
    record { stream = name; start = some_stamp; end = some_stamp },
    record { start_text = stamp_text some_stamp; end_text = stamp_text some_stamp; are = refl; name = is; start_is = spelled; end_is = spelled; in_order = omega arith },
  )

  pub some_window : AreWindow (codes "S" ∷ stamp_text some_stamp ∷ stamp_text some_stamp ∷ [])
  some_window = window_sample (codes "S") name_sample
