-- The changes that are captured of a history are of one database, and no two of them agree in both transaction and row.
use Rattle.std.proofs.Common.{◌≡◌, ◌≢◌, ℕ, ◌≤◌, Bool, true, false, ◌&&◌, nat_le, List, [], ◌∷◌, filter, None, Some, ⊎_elim, refl, sym, ap, ◌∙◌, subst, arith, Contains, All, AllPairs}
use Rattle.std.specs.List.{cons_option}
use Rattle.std.specs.Int.{is_in_range}
use Rattle.std.specs.declared.option.Option.{Option}
use Rattle.std.proofs.lemmas.Bool.{leb-true, false≢true}
use Rattle.std.proofs.lemmas.List.Elements.{All-contains, All-filter, filter_passes}
use Rattle.cs_types.specs.declared.cells.Cell.{Cell}
use Rattle.cs_types.specs.declared.change.Change.{Change}
use Rattle.cs_types.specs.Change.{wanted_changes}
use Rattle.cs_types.specs.Database.{IsName, AreOfOneType, AgreeInTypes, AreChangesOfOneDatabase}
use Rattle.cs_types.specs.Stamp.{IsStamp}
use Rattle.cs_types.specs.Value.{IsInRange, IsOfType}
use Rattle.cs_types.specs.Members.{Pairwise, in_nil, in_head, in_tail, in_cons, from_filter, all_in, pairs_to, pairs_filter}
use Rattle.cs_schema.specs.declared.types.Column.{Column}
use Rattle.cs_schema.specs.declared.types.Table.{Table}
use Rattle.cs_schema.specs.declared.types.Stream.{Stream}
use Rattle.cs_schema.specs.Sound.{IsSoundCatalog}
use Rattle.cs_schema.specs.Tables.{table_named}
use Rattle.cs_schema.specs.Watching.{key_of}
use Rattle.cs_txn.specs.declared.txn.Modification.{Modification}
use Rattle.cs_txn.specs.Fits.{FitsCatalog, HaveNames, IsHistoryOf}
use Rattle.cs_txn.specs.History.{IsHistory}
use Rattle.cs_capture.specs.Captured.{columns_in, is_told, is_captured, change_of, change_if, captured_change}
use Rattle.cs_capture.specs.Table.{told_by}
use Rattle.cs_capture.specs.Wanted.{captured_changes}
use Rattle.cs_capture.proofs.ToldColumns.{one_column}
use Rattle.cs_capture.proofs.Fitting.{IsOfColumn, IsOfTable, of_table, named_table}
use Rattle.cs_capture.proofs.Grouped.{same_key}
use Rattle.cs_capture.proofs.Members.{pairs_of_members}
use Rattle.cs_capture.proofs.Order.{Later, in_order}
use Rattle.cs_capture.proofs.Transactions.{all_fit}

-- cells of columns of one table agree in their types
agree_in_types : (cs : List Column) → AllPairs (λ (c d : Column). c.name ≢ d.name) cs → (a b : List Cell) → All (IsOfColumn cs) a → All (IsOfColumn cs) b → AgreeInTypes a b
agree_in_types cs apart a b of_a of_b =
    all_in (λ (c : Cell). All (λ (d : Cell). c.column ≡ d.column → AreOfOneType c.value d.value) b) a (λ c i.
    all_in (λ (d : Cell). c.column ≡ d.column → AreOfOneType c.value d.value) b (λ d j e.
    one c d (All-contains (IsOfColumn cs) a c of_a i) (All-contains (IsOfColumn cs) b d of_b j) e))
  where
    one : (c d : Cell) → IsOfColumn cs c → IsOfColumn cs d → c.column ≡ d.column → AreOfOneType c.value d.value
    one c d p q e =
        let same : p.column ≡ q.column = one_column cs apart p.column q.column p.there q.there (p.named ∙ e ∙ sym q.named) in
        (q.column.ty, subst (λ (z : Column). IsOfType z.ty c.value) same p.typed, q.typed)

abbrev in_range : Cell → Type 0
in_range c = IsInRange c.value

-- the change that is captured of a modification
pub record IsChangeOf (tables : List Table) (s : Stream) (m : Modification) (c : Change) : Type 0 where
  pub is : c ≡ change_of s (key_of (table_named m.row.table tables)) m

is_change : (tables : List Table) (s : Stream) (m : Modification) (c : Change) → captured_change tables s m ≡ Some c → IsChangeOf tables s m c
is_change tables s m c e = by (is_captured s (key_of (table_named m.row.table tables)) m) e
  where
    by : (b : Bool) → change_if b s (key_of (table_named m.row.table tables)) m ≡ Some c → IsChangeOf tables s m c
    by true h = record { is = some_same _ c h }
      where
        some_same : (a b : Change) → Some a ≡ Some b → b ≡ a
        some_same a b k = cc
    by false h = absurd cc

module _ (tables : List Table) (streams : List Stream) (s : Stream) (S : IsSoundCatalog tables streams) (N : HaveNames tables) where
  abbrev table_of : Modification → Option Table
  table_of m = table_named m.row.table tables

  made_of_one : (m n : Modification) → FitsCatalog tables m → FitsCatalog tables n → IsStamp m.stamp → IsStamp n.stamp → AreChangesOfOneDatabase (change_of s (key_of (table_of m)) m) (change_of s (key_of (table_of n)) n)
  made_of_one m n F G us_m us_n =
      let O : IsOfTable (table_of m) m = of_table tables streams m S F in
      let P : IsOfTable (table_of n) n = of_table tables streams n S G in
      let moved : m.row.table ≡ n.row.table → IsOfTable (table_of m) n = λ t. subst (λ name. IsOfTable (table_named name tables) n) (sym t) P in
      let new_told : Modification → Cell → Bool = λ x. is_told (told_by s.capture x.kind).new s.watch (key_of (table_of x)) x in
      let old_told : Modification → Cell → Bool = λ x. is_told (told_by s.capture x.kind).old s.watch (key_of (table_of x)) x in
      record {
        rows = record {
          layout = record {
            names = (named_table tables IsName m F N, named_table tables IsName n G N);
            columns_of_one_table = λ t. same_key (table_of m) m n O (moved t);
            values = (O.key_cells.in_range, P.key_cells.in_range);
          };
          types_of_one_table = λ t. agree_in_types (columns_in (table_of m)) O.apart m.row.key n.row.key O.keys (moved t).keys;
        };
        stamps = (us_m, us_n);
        values = (
          All-filter (new_told m) in_range m.after O.after_in_range,
          All-filter (old_told m) in_range m.before O.before_in_range,
          All-filter (new_told n) in_range n.after P.after_in_range,
          All-filter (old_told n) in_range n.before P.before_in_range,
        );
        types_of_one_table = λ t. (
          agree_in_types (columns_in (table_of m)) O.apart (filter (new_told m) m.after) (filter (new_told n) n.after)
              (All-filter (new_told m) (IsOfColumn (columns_in (table_of m))) m.after O.after)
              (All-filter (new_told n) (IsOfColumn (columns_in (table_of m))) n.after (moved t).after),
          agree_in_types (columns_in (table_of m)) O.apart (filter (old_told m) m.before) (filter (old_told n) n.before)
              (All-filter (old_told m) (IsOfColumn (columns_in (table_of m))) m.before O.before)
              (All-filter (old_told n) (IsOfColumn (columns_in (table_of m))) n.before (moved t).before),
        );
      }

module _ (tables : List Table) (s : Stream) where
  -- a captured change with its modification
  pub record Source (ms : List Modification) (c : Change) : Type 0 where
    pub m : Modification
    pub there : Contains ms m
    pub is : captured_change tables s m ≡ Some c

  pub source : (ms : List Modification) (c : Change) → Contains (captured_changes tables s ms) c → Source ms c
  source [] c i = absurd (in_nil c i)
  source (m ∷ ms) c i = by (captured_change tables s m) refl i (source ms c)
    where
      further : Source ms c → Source (m ∷ ms) c
      further r = record { m = r.m; there = in_tail m r.m ms r.there; is = r.is }

      by : (o : Option Change) → captured_change tables s m ≡ o → Contains (cons_option o (captured_changes tables s ms)) c → (Contains (captured_changes tables s ms) c → Source ms c) → Source (m ∷ ms) c
      by None e j f = further (f j)
      by (Some d) e j f = ⊎_elim
          (λ (k : c ≡ d). record { m = m; there = in_head m ms; is = e ∙ ap Some (sym k) })
          (λ (k : Contains (captured_changes tables s ms) c). further (f k))
          (in_cons d c (captured_changes tables s ms) j)

  -- no two changes agree in both transaction and row
  abbrev pub Apart : Change → Change → Type 0
  Apart c d = c.row ≡ d.row → c.tx ≢ d.tx

  pairs_apart : (ms : List Modification) → ((a b : Modification) → Contains ms a → Contains ms b → a.tx ≡ b.tx → (a.stamp ≡ b.stamp) × (a.tag ≡ b.tag)) → Pairwise Later ms → Pairwise Apart (captured_changes tables s ms)
  pairs_apart [] one h = tt
  pairs_apart (m ∷ ms) one h = by (captured_change tables s m) refl (pairs_apart ms (λ a b i j. one a b (in_tail m a ms i) (in_tail m b ms j)) h.1)
    where
      by : (o : Option Change) → captured_change tables s m ≡ o → Pairwise Apart (captured_changes tables s ms) → Pairwise Apart (cons_option o (captured_changes tables s ms))
      by None e k = k
      by (Some c) e k = (
        λ d i row tx.
            let u = source ms d i in
            let a = (is_change tables s m c e).is in
            let b = (is_change tables s u.m d u.is).is in
            let same_row : m.row ≡ u.m.row = sym (ap (λ (x : Change). x.row) a) ∙ row ∙ ap (λ (x : Change). x.row) b in
            let same_tx : m.tx ≡ u.m.tx = sym (ap (λ (x : Change). x.tx) a) ∙ tx ∙ ap (λ (x : Change). x.tx) b in
            (h.0 u.m u.there).1 (one m u.m (in_head m ms) (in_tail m u.m ms u.there) same_tx).0 same_row,
        k,
      )

pub apart : (tables : List Table) (s : Stream) (ms : List Modification) (start end : ℕ) → IsHistory ms → AllPairs (λ (c d : Change). c.row ≡ d.row → c.tx ≢ d.tx) (wanted_changes start end (captured_changes tables s ms))
apart tables s ms start end H =
    let G = in_order ms H in
    let R : Change → Change → Type 0 = λ c d. c.row ≡ d.row → c.tx ≢ d.tx in
    pairs_to R (wanted_changes start end (captured_changes tables s ms)) (pairs_filter R (λ (c : Change). is_in_range start end c.stamp) (captured_changes tables s ms) (pairs_apart tables s ms G.one G.order))

-- a change of those that are wanted has a stamp
stamp_between : (start end stamp : ℕ) → IsStamp start → IsStamp end → is_in_range start end stamp ≡ true → IsStamp stamp
stamp_between start end stamp a b h =
    let low : start ≤ stamp = leb-true start stamp (and_left (nat_le start stamp) (nat_le stamp end) h) in
    let high : stamp ≤ end = leb-true stamp end (and_right (nat_le start stamp) (nat_le stamp end) h) in
    let least = a.0 in
    let most = b.1 in
    (omega (arith, low, least), omega (arith, high, most))
  where
    and_left : (p q : Bool) → (p && q) ≡ true → p ≡ true
    and_left true q h = refl
    and_left false q h = h

    and_right : (p q : Bool) → (p && q) ≡ true → q ≡ true
    and_right true q h = h
    and_right false q h = absurd (false≢true h)

module _ (tables : List Table) (streams : List Stream) (s : Stream) (ms : List Modification) (start end : ℕ) (S : IsSoundCatalog tables streams) (N : HaveNames tables) (H : IsHistoryOf tables ms) (from_start : IsStamp start) (to_end : IsStamp end) where
  F : All (FitsCatalog tables) ms
  F = all_fit tables ms H

  abbrev wanted : List Change
  wanted = wanted_changes start end (captured_changes tables s ms)

  stamped : (c : Change) → Contains wanted c → IsStamp c.stamp
  stamped c i = stamp_between start end c.stamp from_start to_end (All-contains (λ (x : Change). is_in_range start end x.stamp ≡ true) wanted c (filter_passes (λ (x : Change). is_in_range start end x.stamp) (captured_changes tables s ms)) i)

  from_history : (c : Change) → Contains wanted c → Source tables s ms c
  from_history c i = source tables s ms c (from_filter (λ (x : Change). is_in_range start end x.stamp) c (captured_changes tables s ms) i).0

  two : (c d : Change) → Contains wanted c → Contains wanted d → AreChangesOfOneDatabase c d
  two c d i j =
      let u = from_history c i in
      let v = from_history d j in
      let a : c ≡ change_of s (key_of (table_named u.m.row.table tables)) u.m = (is_change tables s u.m c u.is).is in
      let b : d ≡ change_of s (key_of (table_named v.m.row.table tables)) v.m = (is_change tables s v.m d v.is).is in
      let made = made_of_one tables streams s S N u.m v.m (All-contains (FitsCatalog tables) ms u.m F u.there) (All-contains (FitsCatalog tables) ms v.m F v.there)
      (subst (λ (x : Change). IsStamp x.stamp) a (stamped c i)) (subst (λ (x : Change). IsStamp x.stamp) b (stamped d j)) in
      subst (λ (x : Change). AreChangesOfOneDatabase x d) (sym a) (subst (λ (y : Change). AreChangesOfOneDatabase (change_of s (key_of (table_named u.m.row.table tables)) u.m) y) (sym b) made)

  pub one_database : AllPairs AreChangesOfOneDatabase wanted
  one_database = pairs_to AreChangesOfOneDatabase wanted (pairs_of_members AreChangesOfOneDatabase wanted two)
