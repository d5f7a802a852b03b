-- What a database keeps when a line was taken.
use Rattle.std.proofs.Common.{◌≡◌, ◌<◌, ◌≤◌, ◌+◌, ℕ, zero, suc, List, [], ◌∷◌, ◌++◌, map, length, Bool, true, false, cond, is_some, slice_get, slice_set, All, Option, None, Some, refl, sym, ap, subst, ◌∙◌, append-nil, arith}
use Rattle.std.specs.Str.Lossy.{utf8_lossy}
use Rattle.std.proofs.lemmas.List.Elements.{All-nil, All-cons, All-head, All-tail, All-weaker, All-append, All-push, All-set}
use Rattle.cs_ddl.specs.Lex.{is_word_byte}
use Rattle.cs_ddl.specs.declared.tree.Statement.{Statement}
use Rattle.cs_ddl.specs.declared.tree.Statement.TheVariants.{CreateTable, AddColumn, CreateStream, SetWatch, DropWatch, SetOptions, DropStream}
use Rattle.cs_types.specs.Database.{IsName}
use Rattle.cs_types.specs.Names.{is_same, is_among}
use Rattle.cs_schema.specs.declared.types.Column.{Column}
use Rattle.cs_schema.specs.declared.types.Table.{Table}
use Rattle.cs_schema.specs.declared.types.Stream.{Stream}
use Rattle.cs_schema.specs.Tables.{with_column, table_named}
use Rattle.cs_schema.specs.Applying.{applied}
use Rattle.cs_txn.specs.declared.txn.Txn.{Txn}
use Rattle.cs_txn.specs.declared.txn.Write.{Write}
use Rattle.cs_txn.specs.declared.txn.Modification.{Modification}
use Rattle.cs_txn.specs.Fits.{IsHistoryOf}
use Rattle.cs_txn.specs.History.{modifications_of, modifications_from}
use Rattle.cs_place.specs.declared.place.Place.{Place}
use Rattle.cs_place.specs.declared.part.Part.{Part}
use Rattle.cs_place.specs.declared.part.Range.{Range}
use Rattle.cs_partitions.specs.Layout.{StreamParts, new_layout}
use Rattle.cs_partitions.specs.Reshape.{reshaped, with_end, followers, new_parts}
use Rattle.cs_script.specs.Database.{Database, writes_at}
use Rattle.cs_script.specs.Kept.{IsBy, IsEndBy, IsPartBy, IsLayoutOf, AreLayoutsOf, IsKept}
use Rattle.cs_script.specs.Line.{is_back}
use Rattle.cs_script.specs.Members.{is_id}
use Rattle.cs_script.specs.Named.{IsTableName}
use Rattle.cs_script.specs.Takes.{HasNames, schema_of, with_schema, layouts_made}
use Rattle.cs_script.proofs.Counting.{by_later, few_with, new_by}
use Rattle.cs_script.proofs.Naming.{word_above}

end_later : (last : Option ℕ) (at : ℕ) (until : Option ℕ) → is_back last at ≡ false → IsEndBy last until → IsEndBy (Some at) until
end_later last at None order h = tt
end_later last at (Some until) order h = by_later last at until order h

part_later : (last : Option ℕ) (at : ℕ) → is_back last at ≡ false → (p : Part) → IsPartBy last p → IsPartBy (Some at) p
part_later last at order p h = record { from = by_later last at p.from order h.from; until = end_later last at p.until order h.until }

parts_later : (last : Option ℕ) (at : ℕ) → is_back last at ≡ false → (l : StreamParts) → All (IsPartBy last) l.parts → All (IsPartBy (Some at)) l.parts
parts_later last at order l h = All-weaker (IsPartBy last) (IsPartBy (Some at)) (part_later last at order) l.parts h

commits_later : (last : Option ℕ) (at : ℕ) → is_back last at ≡ false → (ms : List Modification) → All (λ (m : Modification). IsBy last m.stamp) ms → All (λ (m : Modification). IsBy (Some at) m.stamp) ms
commits_later last at order ms h = All-weaker (λ (m : Modification). IsBy last m.stamp) (λ (m : Modification). IsBy (Some at) m.stamp) (λ m b. by_later last at m.stamp order b) ms h

creations_later : (last : Option ℕ) (at : ℕ) → is_back last at ≡ false → (ss : List Stream) → All (λ (s : Stream). IsBy last s.created) ss → All (λ (s : Stream). IsBy (Some at) s.created) ss
creations_later last at order ss h = All-weaker (λ (s : Stream). IsBy last s.created) (λ (s : Stream). IsBy (Some at) s.created) (λ s b. by_later last at s.created order b) ss h

layouts_later : (last : Option ℕ) (at : ℕ) → is_back last at ≡ false → (ls : List StreamParts) → All (λ (l : StreamParts). All (IsPartBy last) l.parts) ls → All (λ (l : StreamParts). All (IsPartBy (Some at)) l.parts) ls
layouts_later last at order ls h = All-weaker (λ (l : StreamParts). All (IsPartBy last) l.parts) (λ (l : StreamParts). All (IsPartBy (Some at)) l.parts) (parts_later last at order) ls h

-- ---- a commit

new_ids : (tables : List Table) (ms : List Modification) (txn : Txn) (ws : List Write) → is_id txn.tx ≡ true → All (λ (m : Modification). is_id m.tx ≡ true) (modifications_from tables ms txn ws)
new_ids tables ms txn [] h = All-nil (λ (m : Modification). is_id m.tx ≡ true)
new_ids tables ms txn (w ∷ ws) h = All-cons (λ (m : Modification). is_id m.tx ≡ true) _ (modifications_from tables ms txn ws) h (new_ids tables ms txn ws h)

pub kept_commit : (db : Database) (txn : Txn) → IsKept db → is_back db.last txn.stamp ≡ false → is_id txn.tx ≡ true → writes_at txn.stamp db.modifications + length txn.writes ≤ 1024
    → IsHistoryOf db.tables (db.modifications ++ modifications_of db.tables db.modifications txn)
    → IsKept (record { tables = db.tables; streams = db.streams; modifications = db.modifications ++ modifications_of db.tables db.modifications txn; layouts = db.layouts; last = Some txn.stamp })
kept_commit db txn kept order id room fits = record {
  names = kept.names;
  table_names = kept.table_names;
  fits = fits;
  ids = All-append (λ (m : Modification). is_id m.tx ≡ true) db.modifications (modifications_from db.tables db.modifications txn txn.writes) kept.ids (new_ids db.tables db.modifications txn txn.writes id);
  layouts = kept.layouts;
  few = few_with db.tables db.modifications txn room kept.few;
  commits = All-append (λ (m : Modification). IsBy (Some txn.stamp) m.stamp) db.modifications (modifications_from db.tables db.modifications txn txn.writes)
      (commits_later db.last txn.stamp order db.modifications kept.commits) (new_by db.tables db.modifications txn txn.writes);
  creations = creations_later db.last txn.stamp order db.streams kept.creations;
  parts = layouts_later db.last txn.stamp order db.layouts kept.parts;
}

-- ---- a statement

-- what holds of each name that a table may have
module _ (P : List ℕ → Type 0) (of : (name : List ℕ) → IsTableName name → P name) where
  names_grown : (name : List ℕ) (column : Column) (ts : List Table) → All (λ (t : Table). P t.name) ts → All (λ (t : Table). P t.name) (with_column name column ts)
  names_grown name column [] h = h
  names_grown name column (t ∷ ts) h = by (is_some (table_named name ts)) (is_same t.name name) (names_grown name column ts (All-tail (λ (t : Table). P t.name) t ts h))
    where
      by : (b c : Bool) → All (λ (t : Table). P t.name) (with_column name column ts) → All (λ (t : Table). P t.name) (cond b (t ∷ with_column name column ts) (cond c (record { name = t.name; columns = t.columns ++ column ∷ []; key = t.key } ∷ ts) (t ∷ ts)))
      by true c rest = All-cons (λ (t : Table). P t.name) t (with_column name column ts) (All-head (λ (t : Table). P t.name) t ts h) rest
      by false true rest = All-cons (λ (t : Table). P t.name) _ ts (All-head (λ (t : Table). P t.name) t ts h) (All-tail (λ (t : Table). P t.name) t ts h)
      by false false rest = h

  names_applied : (db : Database) (at : ℕ) (s : Statement) → All (λ (t : Table). P t.name) db.tables → HasNames s → All (λ (t : Table). P t.name) (applied (schema_of db) at s).tables
  names_applied db at (CreateTable name columns key) h n = All-push (λ (t : Table). P t.name) db.tables _ h (of (utf8_lossy name) n)
  names_applied db at (AddColumn table name ty) h n = names_grown _ _ db.tables h
  names_applied db at (CreateStream name watch options) h n = h
  names_applied db at (SetWatch name watch) h n = h
  names_applied db at (DropWatch name) h n = h
  names_applied db at (SetOptions name options) h n = h
  names_applied db at (DropStream name) h n = h

one_layout : (ss : List Stream) (ls : List StreamParts) (s : Stream) (l : StreamParts) → AreLayoutsOf ss ls → IsLayoutOf s l → AreLayoutsOf (ss ++ s ∷ []) (ls ++ l ∷ [])
one_layout [] [] s l h is = (is, tt)
one_layout [] (m ∷ ls) s l h is = absurd h
one_layout (r ∷ ss) [] s l h is = absurd h
one_layout (r ∷ ss) (m ∷ ls) s l h is = (h.0, one_layout ss ls s l h.1 is)

no_layout : (ss : List Stream) (ls : List StreamParts) → AreLayoutsOf ss ls → AreLayoutsOf ss (ls ++ [])
no_layout ss ls h = subst (AreLayoutsOf ss) (sym (append-nil ls)) h

layouts_applied : (db : Database) (at : ℕ) (s : Statement) → AreLayoutsOf db.streams db.layouts → AreLayoutsOf (applied (schema_of db) at s).streams (db.layouts ++ layouts_made at s)
layouts_applied db at (CreateTable name columns key) h = no_layout db.streams db.layouts h
layouts_applied db at (AddColumn table name ty) h = no_layout db.streams db.layouts h
layouts_applied db at (CreateStream name watch options) h = one_layout db.streams db.layouts _ (new_layout (utf8_lossy name) at) h (record { name = refl; created = refl })
layouts_applied db at (SetWatch name watch) h = no_layout db.streams db.layouts h
layouts_applied db at (DropWatch name) h = no_layout db.streams db.layouts h
layouts_applied db at (SetOptions name options) h = no_layout db.streams db.layouts h
layouts_applied db at (DropStream name) h = no_layout db.streams db.layouts h

creations_applied : (db : Database) (at : ℕ) (s : Statement) → All (λ (s : Stream). IsBy (Some at) s.created) db.streams → All (λ (s : Stream). IsBy (Some at) s.created) (applied (schema_of db) at s).streams
creations_applied db at (CreateTable name columns key) h = h
creations_applied db at (AddColumn table name ty) h = h
creations_applied db at (CreateStream name watch options) h = All-push (λ (s : Stream). IsBy (Some at) s.created) db.streams _ h (omega arith)
creations_applied db at (SetWatch name watch) h = h
creations_applied db at (DropWatch name) h = h
creations_applied db at (SetOptions name options) h = h
creations_applied db at (DropStream name) h = h

first_part_by : (name : List ℕ) (at : ℕ) → All (IsPartBy (Some at)) (new_layout name at).parts
first_part_by name at = All-cons (IsPartBy (Some at)) _ [] (record { from = omega arith; until = tt }) (All-nil (IsPartBy (Some at)))

parts_applied : (ls : List StreamParts) (at : ℕ) (s : Statement) → All (λ (l : StreamParts). All (IsPartBy (Some at)) l.parts) ls → All (λ (l : StreamParts). All (IsPartBy (Some at)) l.parts) (ls ++ layouts_made at s)
parts_applied ls at (CreateTable name columns key) h = subst (All (λ (l : StreamParts). All (IsPartBy (Some at)) l.parts)) (sym (append-nil ls)) h
parts_applied ls at (AddColumn table name ty) h = subst (All (λ (l : StreamParts). All (IsPartBy (Some at)) l.parts)) (sym (append-nil ls)) h
parts_applied ls at (CreateStream name watch options) h = All-push (λ (l : StreamParts). All (IsPartBy (Some at)) l.parts) ls (new_layout (utf8_lossy name) at) h (first_part_by (utf8_lossy name) at)
parts_applied ls at (SetWatch name watch) h = subst (All (λ (l : StreamParts). All (IsPartBy (Some at)) l.parts)) (sym (append-nil ls)) h
parts_applied ls at (DropWatch name) h = subst (All (λ (l : StreamParts). All (IsPartBy (Some at)) l.parts)) (sym (append-nil ls)) h
parts_applied ls at (SetOptions name options) h = subst (All (λ (l : StreamParts). All (IsPartBy (Some at)) l.parts)) (sym (append-nil ls)) h
parts_applied ls at (DropStream name) h = subst (All (λ (l : StreamParts). All (IsPartBy (Some at)) l.parts)) (sym (append-nil ls)) h

pub kept_statement : (db : Database) (at : ℕ) (s : Statement) → IsKept db → is_back db.last at ≡ false → HasNames s
    → IsHistoryOf (applied (schema_of db) at s).tables db.modifications → IsKept (with_schema db at s (applied (schema_of db) at s))
kept_statement db at s kept order has fits = record {
  names = names_applied IsName (λ name h. All-weaker (λ b. is_word_byte b ≡ true) (λ b. 0 < b) word_above name h.word) db at s kept.names has;
  table_names = names_applied IsTableName (λ name h. h) db at s kept.table_names has;
  fits = fits;
  ids = kept.ids;
  layouts = layouts_applied db at s kept.layouts;
  few = kept.few;
  commits = commits_later db.last at order db.modifications kept.commits;
  creations = creations_applied db at s (creations_later db.last at order db.streams kept.creations);
  parts = parts_applied db.layouts at s (layouts_later db.last at order db.layouts kept.parts);
}

-- ---- a reshape

set_layout : (ss : List Stream) (ls : List StreamParts) (place : ℕ) (l new : StreamParts) → AreLayoutsOf ss ls → slice_get ls place ≡ Some l → new.stream ≡ l.stream → new.created ≡ l.created → AreLayoutsOf ss (slice_set ls place new)
set_layout [] [] place l new h e n c = h
set_layout [] (m ∷ ls) place l new h e n c = absurd h
set_layout (s ∷ ss) [] place l new h e n c = absurd h
set_layout (s ∷ ss) (m ∷ ls) zero l new h e n c =
    let is : m ≡ l = cc in
    (record { name = n ∙ ap (λ x. x.stream) (sym is) ∙ h.0.name; created = c ∙ ap (λ x. x.created) (sym is) ∙ h.0.created }, h.1)
set_layout (s ∷ ss) (m ∷ ls) (suc place) l new h e n c = (h.0, set_layout ss ls place l new h.1 e n c)

ended_by : (tokens : List (List ℕ)) (at : ℕ) (p : Part) → IsPartBy (Some at) p → IsPartBy (Some at) (with_end tokens at p)
ended_by tokens at p h = by (is_among p.token tokens)
  where
    by : (b : Bool) → IsPartBy (Some at) (cond b (record p { until = Some at }) p)
    by true = record { from = h.from; until = omega arith }
    by false = h

all_ended : (tokens : List (List ℕ)) (at : ℕ) (ps : List Part) → All (IsPartBy (Some at)) ps → All (IsPartBy (Some at)) (map (with_end tokens at) ps)
all_ended tokens at [] h = All-nil (IsPartBy (Some at))
all_ended tokens at (p ∷ ps) h = All-cons (IsPartBy (Some at)) (with_end tokens at p) (map (with_end tokens at) ps)
    (ended_by tokens at p (All-head (IsPartBy (Some at)) p ps h)) (all_ended tokens at ps (All-tail (IsPartBy (Some at)) p ps h))

followers_by : (stream : List ℕ) (at : ℕ) (named : List Part) (number : ℕ) (rs : List Range) → All (IsPartBy (Some at)) (followers stream at named number rs)
followers_by stream at named number [] = All-nil (IsPartBy (Some at))
followers_by stream at named number (r ∷ rs) = All-cons (IsPartBy (Some at)) _ (followers stream at named (suc number) rs) (record { from = omega arith; until = tt }) (followers_by stream at named (suc number) rs)

reshaped_by : (l : StreamParts) (at : ℕ) (tokens : List (List ℕ)) (borders : List Place) → All (IsPartBy (Some at)) l.parts → All (IsPartBy (Some at)) (reshaped l at tokens borders).parts
reshaped_by l at tokens borders h = All-append (IsPartBy (Some at)) (map (with_end tokens at) l.parts) (new_parts l.stream l.parts at tokens borders) (all_ended tokens at l.parts h) (followers_by l.stream at _ _ _)

got : (P : StreamParts → Type 0) (ls : List StreamParts) (place : ℕ) (l : StreamParts) → All P ls → slice_get ls place ≡ Some l → P l
got P [] place l h e = cc
got P (m ∷ ls) zero l h e = let is : m ≡ l = cc in subst P is (All-head P m ls h)
got P (m ∷ ls) (suc place) l h e = got P ls place l (All-tail P m ls h) e

pub kept_reshape : (db : Database) (at place : ℕ) (l : StreamParts) (tokens : List (List ℕ)) (borders : List Place) → IsKept db → is_back db.last at ≡ false → slice_get db.layouts place ≡ Some l
    → IsKept (record { tables = db.tables; streams = db.streams; modifications = db.modifications; layouts = slice_set db.layouts place (reshaped l at tokens borders); last = Some at })
kept_reshape db at place l tokens borders kept order there =
    let later = layouts_later db.last at order db.layouts kept.parts in
    record {
      names = kept.names;
      table_names = kept.table_names;
      fits = kept.fits;
      ids = kept.ids;
      layouts = set_layout db.streams db.layouts place l (reshaped l at tokens borders) kept.layouts there refl refl;
      few = kept.few;
      commits = commits_later db.last at order db.modifications kept.commits;
      creations = creations_later db.last at order db.streams kept.creations;
      parts = All-set (λ (l : StreamParts). All (IsPartBy (Some at)) l.parts) db.layouts place (reshaped l at tokens borders)
          (reshaped_by l at tokens borders (got (λ (l : StreamParts). All (IsPartBy (Some at)) l.parts) db.layouts place l later there)) later;
    }
