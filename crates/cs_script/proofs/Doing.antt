-- What a line does that was read.
use Rattle.std.proofs.Common.{◌≡◌, ◌<◌, ◌≤◌, ◌+◌, ℕ, zero, suc, List, [], ◌∷◌, length, slice_index_or, true, false, nat_lt, slice_get, slice_set, Option, None, Some, Result, Ok, Err, OnOk, IfOk, IfErr, refl, sym, ap, subst, ◌∙◌, arith}
use Rattle.cs_txn.specs.declared.txn.Txn.{Txn}
use Rattle.cs_txn.specs.declared.fault.TxnFault.{TxnFault}
use Rattle.cs_txn.specs.Sizes.{first_fault}
use Rattle.cs_script.specs.declared.fault.LineCause.{LineCause}
use Rattle.cs_script.specs.declared.fault.LineCause.TheVariants.{TooManyAtStamp, Syntax as syntax_cause}
use Rattle.cs_script.specs.Readings.{Reading}
use Rattle.cs_script.specs.Database.{Database, writes_at}
use Rattle.cs_partitions.specs.Layout.{StreamParts}
use Rattle.cs_partitions.specs.Reshape.{reshaped}
use Rattle.cs_partitions.specs.Fault.{first_fault as layout_fault}
use Rattle.cs_script.specs.declared.action.Reshape.{Reshape}
use Rattle.cs_script.specs.Borders.{stream_place}
use Rattle.cs_ddl.specs.declared.tree.Statement.{Statement}
use Rattle.cs_ddl.specs.declared.fault.SyntaxFault.TheVariants as syntax
use Rattle.cs_ddl.specs.Grammars.{statements}
use Rattle.cs_ddl.specs.Text.{IsTextOf, IsFaultAt}
use Rattle.cs_schema.specs.Applying.{first_fault as schema_fault}
use Rattle.cs_types.specs.declared.moment.StampFault.{StampFault}
use Rattle.serde_json.specs.Data.{Data}
use Rattle.cs_script.specs.declared.action.Action.{Action}
use Rattle.cs_script.specs.declared.action.Action.TheVariants as actions
use Rattle.cs_script.specs.declared.action.Commit.{Commit}
use Rattle.cs_script.specs.Line.{at_text, object_reading}
use Rattle.cs_script.specs.Takes.{committed, committed_unless, reshaped_in, txn_of, schema_of, applied_unless, done_if, IsMomentOf, TellsStatement, IsDone, IsTakenTree}

lt_true : (a b : ℕ) → a < b → nat_lt a b ≡ true
lt_true a b h = grind (arith, h)

not_lt : (a b : ℕ) → b ≤ a → nat_lt a b ≡ false
not_lt a b h = grind (arith, h)

-- a stamp without room
pub no_room : (db : Database) (txn : Txn) → 1024 < writes_at txn.stamp db.modifications + length txn.writes → committed db txn ≡ Err TooManyAtStamp
unfolding committed
no_room db txn h = rw (lt_true 1024 (writes_at txn.stamp db.modifications + length txn.writes) h) refl

-- and one with room
pub with_room : (db : Database) (txn : Txn) (o : Option TxnFault) → writes_at txn.stamp db.modifications + length txn.writes ≤ 1024 → first_fault db.tables db.modifications txn ≡ o → committed db txn ≡ committed_unless db txn o
unfolding committed
with_room db txn o h e = rw (not_lt 1024 (writes_at txn.stamp db.modifications + length txn.writes) h) (ap (committed_unless db txn) e)

-- a reshape of a stream that is there
pub reshaped_is : (db : Database) (at : ℕ) (r : Reshape) (place : ℕ) (l : StreamParts) → stream_place r.stream db.streams ≡ Some place → slice_get db.layouts place ≡ Some l → layout_fault l.parts at r.parts r.borders ≡ None
    → reshaped_in db at r (stream_place r.stream db.streams) ≡ Ok (record { tables = db.tables; streams = db.streams; modifications = db.modifications; layouts = slice_set db.layouts place (reshaped l at r.parts r.borders); last = Some at })
reshaped_is db at r place l there layout none = rw (there, layout, none) refl

-- the element at a place that is inside
pub got_at : (ls : List StreamParts) (place : ℕ) (l : StreamParts) → place < length ls → l ≡ slice_index_or ls place l → slice_get ls place ≡ Some l
got_at [] place l h e = absurd (omega (arith, h))
got_at (m ∷ ls) zero l h e = ap Some (sym e)
got_at (m ∷ ls) (suc place) l h e = got_at ls place l (omega (arith, h)) e

-- ---- what is done

pub on_ok : {T E P Q : Type 0} (r : Result T E) → (P → Q) → OnOk r P → OnOk r Q
on_ok (Ok t) f h = f h
on_ok (Err e) f h = tt

pub if_err : {T E : Type 0} (r : Result T E) (P Q : E → Type 0) → ((e : E) → P e → Q e) → IfErr r P → IfErr r Q
if_err (Ok t) P Q f h = tt
if_err (Err e) P Q f h = f e h

pub commit_done : (db : Database) (at : ℕ) (c : Commit) (out : Reading Database) → committed db (txn_of at c) ≡ out → IsDone db at (actions.Commit c) out
commit_done db at c out e = record { ddl = Err (syntax.At 0); statement = tt; result = sym e }

pub reshape_done : (db : Database) (at : ℕ) (r : Reshape) (out : Reading Database) → reshaped_in db at r (stream_place r.stream db.streams) ≡ out → IsDone db at (actions.Reshape r) out
reshape_done db at r out e = record { ddl = Err (syntax.At 0); statement = tt; result = sym e }

pub statement_done : (db : Database) (at : ℕ) (text : List ℕ) (s : Statement) (out : Reading Database) → IsTextOf statements text s → applied_unless db at s (schema_fault (schema_of db) s) ≡ out → IsDone db at (actions.Ddl text) out
statement_done db at text s out is e = record { ddl = Ok s; statement = (is, tt); result = sym e }

pub syntax_done : (db : Database) (at : ℕ) (text : List ℕ) (place : ℕ) → IsFaultAt statements text place → IsDone db at (actions.Ddl text) (Err (syntax_cause (syntax.At place)))
syntax_done db at text place is = record { ddl = Err (syntax.At place); statement = (is, tt); result = refl }

-- ---- what is taken

pub action_taken : (db : Database) (tree : Data) (told : Result ℕ StampFault) (p : ℕ × Action) (out : Reading Database) → IsMomentOf (at_text tree) told → object_reading db told tree ≡ Ok p → IsDone db p.0 p.1 out → IsTakenTree db tree out
action_taken db tree told p out moment is d = record {
  told = told;
  moment = moment;
  ddl = d.ddl;
  statement = subst (λ r. TellsStatement r d.ddl) (sym is) d.statement;
  result = d.result ∙ ap (done_if db d.ddl) (sym is);
}

pub cause_taken : (db : Database) (tree : Data) (told : Result ℕ StampFault) (e : LineCause) → IsMomentOf (at_text tree) told → object_reading db told tree ≡ Err e → IsTakenTree db tree (Err e)
cause_taken db tree told e moment is = record {
  told = told;
  moment = moment;
  ddl = Err (syntax.At 0);
  statement = subst (λ r. TellsStatement r (Err (syntax.At 0))) (sym is) tt;
  result = ap (done_if db (Err (syntax.At 0))) (sym is);
}

pub if_ok : {T E : Type 0} {P Q : T → Type 0} (r : Result T E) → ((t : T) → P t → Q t) → IfOk r P → IfOk r Q
if_ok (Ok t) f h = f t h
if_ok (Err e) f h = tt
