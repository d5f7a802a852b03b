-- What is captured of modifications that fit their catalog, where a record can name its tables and its transactions.
use Rattle.std.proofs.Common.{◌≡◌, ℕ, Bool, true, false, cond, nat_le, List, [], ◌∷◌, ◌++◌, Option, None, Some, ⊎_elim, refl, sym, ap, ◌∙◌, subst, Contains, All}
use Rattle.std.specs.List.{cons_option}
use Rattle.std.specs.Option.{option_or}
use Rattle.std.proofs.lemmas.List.Elements.{All-contains, All-head, All-tail}
use Rattle.cs_types.specs.Exact.{same_name-is}
use Rattle.cs_types.specs.Names.{is_same}
use Rattle.cs_types.specs.Members.{in_nil, in_head, in_tail, in_cons}
use Rattle.cs_records.specs.declared.captured.Captured.{Captured}
use Rattle.cs_records.specs.Group.{HasItsColumns}
use Rattle.cs_schema.specs.declared.types.Table.{Table}
use Rattle.cs_schema.specs.declared.types.Stream.{Stream}
use Rattle.cs_schema.specs.Sound.{IsSoundCatalog}
use Rattle.cs_schema.specs.Tables.{table_named}
use Rattle.cs_schema.specs.Watching.{key_of}
use Rattle.cs_txn.specs.declared.txn.Modification.{Modification}
use Rattle.cs_txn.specs.Fits.{FitsCatalog, EachFits}
use Rattle.cs_capture.specs.Captured.{is_captured, change_if, with_columns, captured}
use Rattle.cs_capture.specs.Types.{AreOfTheirTypes}
use Rattle.cs_json_reading.specs.Texts.{is_transaction, is_name}
use Rattle.cs_steps.specs.Captures.{IsKept, captured_since, captured_items}
use Rattle.cs_answer_lines.specs.Writable.{AreWritable}
use Rattle.cs_answer_lines.proofs.Listed.{IsGood}

-- what the law on captured changes says of one
pub record CanBeTold : Type 0 where
  pub columns : (tables : List Table) (streams : List Stream) (stream : Stream) (m : Modification) (c : Captured) → IsSoundCatalog tables streams → FitsCatalog tables m → captured tables stream m ≡ Some c → HasItsColumns c
  pub types : (tables : List Table) (streams : List Stream) (stream : Stream) (m : Modification) (c : Captured) → IsSoundCatalog tables streams → FitsCatalog tables m → captured tables stream m ≡ Some c → AreOfTheirTypes c

fits_from : (tables : List Table) (earlier ms : List Modification) → EachFits tables earlier ms → (m : Modification) → Contains ms m → FitsCatalog tables m
fits_from tables earlier [] h m i = absurd (in_nil m i)
fits_from tables earlier (x ∷ ms) h m i = ⊎_elim
    (λ (s : m ≡ x). subst (FitsCatalog tables) (sym s) h.0.fits)
    (λ (j : Contains ms m). fits_from tables (earlier ++ x ∷ []) ms h.1 m j)
    (in_cons x m ms i)

-- the table of a name has it
named_is : (name : List ℕ) (tables : List Table) (t : Table) → All (λ (t : Table). is_name t.name ≡ true) tables → table_named name tables ≡ Some t → is_name name ≡ true
named_is name [] t h e = cc
named_is name (x ∷ xs) t h e = by (table_named name xs) refl (is_same x.name name) refl e (λ u k. named_is name xs u (All-tail (λ (t : Table). is_name t.name ≡ true) x xs h) k)
  where
    by : (o : Option Table) → table_named name xs ≡ o → (b : Bool) → is_same x.name name ≡ b → option_or o (cond b (Some x) None) ≡ Some t → ((u : Table) → table_named name xs ≡ Some u → is_name name ≡ true) → is_name name ≡ true
    by (Some u) k b s r f = f u k
    by None k true s r f = subst (λ n. is_name n ≡ true) ((same_name-is x.name name).0 s) (All-head (λ (t : Table). is_name t.name ≡ true) x xs h)
    by None k false s r f = cc

module _ (tables : List Table) (s : Stream) where
  -- a captured change with its modification
  record Source (ms : List Modification) (c : Captured) : Type 0 where
    m : Modification
    there : Contains ms m
    is : captured tables s m ≡ Some c

  since_from : (m : Modification) (c : Captured) → captured_since tables s m ≡ Some c → captured tables s m ≡ Some c
  since_from m c e = by (nat_le s.created m.stamp) e
    where
      by : (b : Bool) → cond b (captured tables s m) None ≡ Some c → captured tables s m ≡ Some c
      by true h = h
      by false h = cc

  from_items : (ms : List Modification) (c : Captured) → Contains (captured_items tables s ms) c → Source ms c
  from_items [] c i = absurd (in_nil c i)
  from_items (m ∷ ms) c i = by (captured_since tables s m) refl i (from_items ms c)
    where
      further : Source ms c → Source (m ∷ ms) c
      further r = record { m = r.m; there = in_tail m r.m ms r.there; is = r.is }

      by : (o : Option Captured) → captured_since tables s m ≡ o → Contains (cons_option o (captured_items tables s ms)) c → (Contains (captured_items tables s ms) c → Source ms c) → Source (m ∷ ms) c
      by None e j f = further (f j)
      by (Some d) e j f = ⊎_elim
          (λ (k : c ≡ d). record { m = m; there = in_head m ms; is = since_from m c (e ∙ ap Some (sym k)) })
          (λ (k : Contains (captured_items tables s ms) c). further (f k))
          (in_cons d c (captured_items tables s ms) j)

  -- it has the id and the table of its modification
  record IsOf (m : Modification) (c : Captured) : Type 0 where
    tx : c.change.tx ≡ m.tx
    table : c.change.row.table ≡ m.row.table

  is_of : (m : Modification) (c : Captured) → captured tables s m ≡ Some c → IsOf m c
  is_of m c e = by (is_captured s (key_of (table_named m.row.table tables)) m) e
    where
      some_same : (a b : Captured) → Some a ≡ Some b → a ≡ b
      some_same a b h = cc

      by : (b : Bool) → with_columns (table_named m.row.table tables) s m (change_if b s (key_of (table_named m.row.table tables)) m) ≡ Some c → IsOf m c
      by false h = cc
      by true h = let k = some_same _ c h in record { tx = ap (λ (x : Captured). x.change.tx) (sym k); table = ap (λ (x : Captured). x.change.row.table) (sym k) }

  pub good_items : CanBeTold → (streams : List Stream) (ms : List Modification) → IsKept tables streams ms → AreWritable tables ms → (c : Captured) → Contains (captured_items tables s ms) c → IsGood c
  good_items L streams ms K W c i =
      let u = from_items ms c i in
      let of = is_of u.m c u.is in
      let fits = fits_from tables [] ms K.fits u.m u.there in
      record {
        transaction = subst (λ t. is_transaction t ≡ true) (sym of.tx) (All-contains (λ (m : Modification). is_transaction m.tx ≡ true) ms u.m W.ids u.there);
        table = subst (λ t. is_name t ≡ true) (sym of.table) (named_is u.m.row.table tables fits.table W.names fits.there);
        columns = L.columns tables streams s u.m c K.catalog fits u.is;
        types = L.types tables streams s u.m c K.catalog fits u.is;
      }
