-- What is written in answer to the text of a request's body.
use Rattle.std.proofs.Common.{◌≡◌, ℕ, List, ◌++◌, Option, Result, Ok, Err, refl, subst}
use Rattle.std.specs.Prelude.{OnOk}
use Rattle.std.specs.Io.KnownBytes.{Appends}
use Rattle.cs_script.specs.Database.{Database}
use Rattle.cs_connection.specs.declared.conn.ConnFault.{ConnFault}
use Rattle.cs_serve.proofs.Pieces.{appends_then}
use Rattle.cs_serve.specs.Answer.{Asked, BodyAsks, IsAnswerToBody, answer_of}

pub asked_body : (r : Result (Unit {0}) ConnFault) (db : Database) (moment : ℕ) (body : List ℕ) (before now : Option (List ℕ)) (asked : Asked) → BodyAsks body asked
    → OnOk r (Appends before now (answer_of db moment asked)) → OnOk r ((answer : List ℕ) × IsAnswerToBody db moment body answer × Appends before now answer)
asked_body (Ok u) db moment body before now asked asks put = (answer_of db moment asked, (asked, asks, refl), put)
asked_body (Err e) db moment body before now asked asks put = tt

-- one text behind another
pub put_behind : (r : Result (Unit {0}) ConnFault) (before mid now : Option (List ℕ)) (first other second : List ℕ) → first ≡ other → Appends before mid first → OnOk r (Appends mid now second) → OnOk r (Appends before now (other ++ second))
put_behind (Ok u) before mid now first other second is a b = appends_then before mid now other second (subst (Appends before mid) is a) b
put_behind (Err e) before mid now first other second is a b = tt
