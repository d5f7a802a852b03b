-- The transaction of a commit that was read has an id.
use Rattle.std.proofs.Common.{◌≡◌, ℕ, List, Bool, true, false, is_some, if◌then◌else◌, Option, None, Some, Result, Ok, Err, refl, ap, subst, codes}
use Rattle.serde_json.specs.Data.{Data}
use Rattle.serde_json.specs.Find.{get, as_str, as_object}
use Rattle.cs_types.specs.declared.moment.StampFault.{StampFault}
use Rattle.cs_schema.specs.declared.types.Table.{Table}
use Rattle.cs_txn.specs.declared.txn.Write.{Write}
use Rattle.cs_script.specs.declared.action.Action.{Action}
use Rattle.cs_script.specs.declared.action.Commit.{Commit}
use Rattle.cs_script.specs.declared.action.Reshape.{Reshape}
use Rattle.cs_script.specs.declared.action.Word.{Word}
use Rattle.cs_script.specs.declared.action.Word.TheVariants as words
use Rattle.cs_script.specs.declared.fault.LineCause.{LineCause}
use Rattle.cs_script.specs.declared.fault.LineCause.TheVariants.{Member}
use Rattle.cs_script.specs.Database.{Database}
use Rattle.cs_script.specs.Line.{word_of, line_members, at_text, built, moment_reading, ddl_of, commit_action, reshape_action, commit_member, reshape_member, action_reading, moment_and_action, object_reading}
use Rattle.cs_script.specs.Members.{or_bad, of_member, required, where_it_is, is_id, id_value, tag_of, no_others}
use Rattle.cs_script.specs.Named.{HasId}
use Rattle.cs_script.specs.Readings.{Reading, both}
use Rattle.cs_script.specs.Writes.{writes_member, commit_members, commit_of, commit_reading}

abbrev refusal : {A : Type 0} → LineCause → Reading A
refusal e = Err e

never : {A : Type 0} (e : LineCause) (a : A) → refusal {A = A} e ≡ Ok a → ⊥
never e a h = cc

abbrev read_as : {A : Type 0} → A → Reading A
read_as a = Ok a

same_read : {A : Type 0} (a b : A) → read_as a ≡ Ok b → a ≡ b
same_read a b h = cc

-- both were read
both_read : {A B : Type 0} (r : Reading A) (s : Reading B) (p : A × B) → both r s ≡ Ok p → (r ≡ Ok p.0) × (s ≡ Ok p.1)
both_read (Ok a) (Ok b) p h = let e = same_read (a, b) p h in (ap (λ q. Ok q.0) e, ap (λ q. Ok q.1) e)
both_read (Ok a) (Err f) p h = absurd (never f p h)
both_read (Err e) (Ok b) p h = absurd (never e p h)
both_read (Err e) (Err f) p h = absurd (never _ p h)

id_there : (o : Option (List ℕ)) (name id : List ℕ) → or_bad name (where_it_is is_id o) ≡ Ok id → is_id id ≡ true
id_there None name id h = absurd (never _ id h)
id_there (Some text) name id h = by (is_id text) refl h
  where
    by : (b : Bool) → is_id text ≡ b → or_bad name (if b then Some text else None) ≡ Ok id → is_id id ≡ true
    by true e k = subst (λ t. is_id t ≡ true) (same_read text id k) e
    by false e k = absurd (never _ id k)

id_read : (name : List ℕ) (d : Data) (id : List ℕ) → required id_value name d ≡ Ok id → is_id id ≡ true
id_read name d id h = by (get name d) h
  where
    by : (o : Option Data) → of_member id_value name o ≡ Ok id → is_id id ≡ true
    by None k = absurd (never _ id k)
    by (Some e) k = id_there (as_str e) name id k

commit_read : (tables : List Table) (d : Data) (c : Commit) → commit_reading tables d ≡ Ok c → is_id c.id ≡ true
unfolding commit_reading
commit_read tables d c h = by (is_some (as_object d)) h
  where
    of : (r : Reading (List ℕ)) (s : Reading (List Write × (List ℕ × Unit {0}))) → commit_of (both r s) ≡ Ok c → r ≡ Ok c.id
    of (Ok id) (Ok p) k = ap (λ (x : Commit). Ok x.id) (same_read _ c k)
    of (Ok id) (Err f) k = absurd (never f c k)
    of (Err e) (Ok p) k = absurd (never e c k)
    of (Err e) (Err f) k = absurd (never _ c k)

    by : (b : Bool) → (if b then commit_of (both (required id_value (codes "id") d) (both (writes_member tables (get (codes "writes") d)) (both (tag_of (get (codes "tag") d)) (no_others commit_members d)))) else Err (Member (codes "commit"))) ≡ Ok c → is_id c.id ≡ true
    by true k = id_read (codes "id") d c.id (of (required id_value (codes "id") d) (both (writes_member tables (get (codes "writes") d)) (both (tag_of (get (codes "tag") d)) (no_others commit_members d))) k)
    by false k = absurd (never _ c k)

action_read : (db : Database) (word : Word) (d : Data) (a : Action) → action_reading db word d ≡ Ok a → HasId a
action_read db words.Ddl d a h = by (required as_str (codes "ddl") d) h
  where
    by : (r : Reading (List ℕ)) → ddl_of r ≡ Ok a → HasId a
    by (Ok text) k = subst HasId (same_read _ a k) tt
    by (Err e) k = absurd (never e a k)
action_read db words.Commit d a h = by (get (codes "commit") d) h
  where
    by : (o : Option Data) → commit_action (commit_member db o) ≡ Ok a → HasId a
    by None k = absurd (never _ a k)
    by (Some e) k = within (commit_reading db.tables e) refl k
      where
        within : (r : Reading Commit) → commit_reading db.tables e ≡ r → commit_action r ≡ Ok a → HasId a
        within (Ok c) s k = subst HasId (same_read _ a k) (commit_read db.tables e c s)
        within (Err f) s k = absurd (never f a k)
action_read db words.Reshape d a h = by (reshape_member db (get (codes "reshape") d)) h
  where
    by : (r : Reading Reshape) → reshape_action r ≡ Ok a → HasId a
    by (Ok x) k = subst HasId (same_read _ a k) tt
    by (Err e) k = absurd (never e a k)

pub id_of_read : (db : Database) (told : Result ℕ StampFault) (d : Data) (p : ℕ × Action) → object_reading db told d ≡ Ok p → HasId p.1
unfolding object_reading
id_of_read db told d p h = by (both (built d) (both (moment_reading db (word_of d) told (at_text d)) (both (action_reading db (word_of d) d) (no_others (line_members (word_of d)) d)))) refl h
  where
    by : (r : Reading (Unit {0} × (ℕ × (Action × Unit {0})))) → both (built d) (both (moment_reading db (word_of d) told (at_text d)) (both (action_reading db (word_of d) d) (no_others (line_members (word_of d)) d))) ≡ r → moment_and_action r ≡ Ok p → HasId p.1
    by (Ok q) e k =
        let moment = (both_read _ _ q e).1 in
        let action = (both_read _ _ q.1 moment).1 in
        let read = (both_read _ _ q.1.1 action).0 in
        subst HasId (ap (λ x. x.1) (same_read _ p k)) (action_read db (word_of d) d q.1.1.0 read)
    by (Err e) s k = absurd (never e p k)
