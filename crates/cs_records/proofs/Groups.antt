-- Records that are cut from the captured changes of a transaction tell just them.
use Rattle.std.proofs.Common.{◌≡◌, ◌↔◌, ◌+◌, ◌<◌, ℕ, zero, suc, List, [], ◌∷◌, ◌++◌, length, drop, get_or, map, Bool, true, false, refl, ap, ◌∙◌, sym, subst, arith, All}
use Rattle.std.specs.List.{AllByRecursion, flat_map}
use Rattle.std.proofs.lemmas.List.{append_assoc, length-append, length-map, get_or_append_left, get_or-append-add, map-append}
use Rattle.std.proofs.lemmas.List.Elements.{All-cons, All-nil, All-weaker, recursion_from_All}
use Rattle.cs_types.specs.declared.change.Change.{Change}
use Rattle.cs_records.specs.declared.captured.Captured.{Captured}
use Rattle.cs_records.specs.declared.records.DataRecord.{DataRecord}
use Rattle.cs_records.specs.declared.records.Mod.{Mod}
use Rattle.cs_records.specs.Told.{change_of, changes_told}
use Rattle.cs_records.specs.Group.{Agree, HasItsColumns, IsAlike, item_of, items_of, IsGroup, AreRecordsOf, mod_of, is_nil, record_of, IsNext, AreCut}
use Rattle.cs_records.proofs.SameColumns.{same_columns, flip, chain, itself}

-- what a record holds once for two captured changes is the same of both
pub record OfOneRecord (a b : Captured) : Type 0 where
  pub stamp : a.change.stamp ≡ b.change.stamp
  pub tx : a.change.tx ≡ b.change.tx
  pub table : a.change.row.table ≡ b.change.row.table
  pub kind : a.change.kind ≡ b.change.kind
  pub columns : a.columns ≡ b.columns
  pub capture : a.capture ≡ b.capture
  pub tag : a.tag ≡ b.tag
  pub system : a.system ≡ b.system

abbrev pub AreOfOne : List Captured → Type 0
AreOfOne items = All (λ a. All (λ b. IsAlike a b → OfOneRecord a b) items) items

pub all_left : {X : Type 0} (P : X → Type 0) (xs ys : List X) → All P (xs ++ ys) → All P xs
all_left P xs ys h k d lt = subst P (get_or_append_left xs ys d k lt) (h k d (omega (arith, length-append xs ys, lt)))

pub all_right : {X : Type 0} (P : X → Type 0) (xs ys : List X) → All P (xs ++ ys) → All P ys
all_right P xs ys h k d lt = subst P (get_or-append-add xs ys k d) (h (length xs + k) d (omega (arith, length-append xs ys, lt)))

pub of_one : (items : List Captured) → All (λ a. All (λ b. Agree a b) items) items → All HasItsColumns items → AreOfOne items
of_one items agree columns k d lt j e lt' alike =
    let there : Agree (get_or items k d) (get_or items j e) = agree k d lt j e lt' in
    let back : Agree (get_or items j e) (get_or items k d) = agree j e lt' k d lt in
    record {
      stamp = there.stamp;
      tx = there.tx;
      table = alike.table;
      kind = alike.kind;
      columns = same_columns (get_or items k d) (get_or items j e) there back (columns k d lt) (columns j e lt') alike;
      capture = there.capture;
      tag = there.tag;
      system = there.system;
    }

of_one_right : (xs ys : List Captured) → AreOfOne (xs ++ ys) → AreOfOne ys
of_one_right xs ys h =
    All-weaker (λ a. All (λ b. IsAlike a b → OfOneRecord a b) (xs ++ ys)) (λ a. All (λ b. IsAlike a b → OfOneRecord a b) ys)
    (λ a g. all_right (λ b. IsAlike a b → OfOneRecord a b) xs ys g) ys (all_right (λ a. All (λ b. IsAlike a b → OfOneRecord a b) (xs ++ ys)) xs ys h)

all_alike : (first : Captured) (more : List Captured) → All (IsAlike first) more → All (IsAlike first) (first ∷ more)
all_alike first more h = All-cons (IsAlike first) first more (itself first) h

pub of_first : (first : Captured) (more after : List Captured) → AreOfOne (first ∷ (more ++ after)) → All (IsAlike first) more → All (OfOneRecord first) (first ∷ more)
of_first first more after h alike =
    let each : All (λ b. IsAlike first b → OfOneRecord first b) ((first ∷ more) ++ after) = h 0 first (omega arith) in
    let group : All (λ b. IsAlike first b → OfOneRecord first b) (first ∷ more) = all_left (λ b. IsAlike first b → OfOneRecord first b) (first ∷ more) after each in
    λ k d lt. group k d lt (all_alike first more alike k d lt)

item_back : (n : ℕ) (first c : Captured) (group after : List Captured) → OfOneRecord first c → item_of (record_of n first group after) (mod_of c) ≡ c
item_back n first c group after o = λ i. record {
  change = record {
    stamp = o.stamp i;
    tx = o.tx i;
    row = record { table = o.table i; key = c.change.row.key };
    kind = o.kind i;
    new = c.change.new;
    old = c.change.old;
  };
  columns = o.columns i;
  capture = o.capture i;
  tag = o.tag i;
  system = o.system i;
}

pub items_back : (n : ℕ) (first : Captured) (group after rest : List Captured) → AllByRecursion (OfOneRecord first) rest → map (item_of (record_of n first group after)) (map mod_of rest) ≡ rest
items_back n first group after [] h = refl
items_back n first group after (c ∷ rest) h = λ i. item_back n first c group after h.0 i ∷ items_back n first group after rest h.1 i

-- what is known of a record that is cut from the front
pub record Known (items after : List Captured) (n : ℕ) (r : DataRecord) : Type 0 where
  pub next : IsNext n items after r
  pub told : items_of r ≡ next.first ∷ next.more
  pub one : All (OfOneRecord next.first) (next.first ∷ next.more)
  pub alike : All (IsAlike next.first) (items_of r)
  pub count : length r.mods ≡ suc (length next.more)

pub known : (items after : List Captured) (n : ℕ) (r : DataRecord) → AreOfOne items → IsNext n items after r → Known items after n r
known items after n r ones next =
    let one : All (OfOneRecord next.first) (next.first ∷ next.more) = of_first next.first next.more after (subst AreOfOne next.split ones) next.alike in
    let told : items_of r ≡ next.first ∷ next.more = ap items_of next.is
    ∙ items_back n next.first (next.first ∷ next.more) after (next.first ∷ next.more) (recursion_from_All (OfOneRecord next.first) (next.first ∷ next.more) one) in
    record {
      next = next;
      told = told;
      one = one;
      alike = subst (All (IsAlike next.first)) (sym told) (all_alike next.first next.more next.alike);
      count = ap (λ (x : DataRecord). length x.mods) next.is ∙ ap suc (length-map next.more mod_of);
    }

pub after_ones : (items after : List Captured) (n : ℕ) (r : DataRecord) → AreOfOne items → IsNext n items after r → AreOfOne after
after_ones items after n r ones next = of_one_right (next.first ∷ next.more) after (subst AreOfOne next.split ones)

group_of : (items after : List Captured) (n : ℕ) (r : DataRecord) → Known items after n r → IsGroup r
group_of items after n r k = record {
  some = omega (arith, k.count);
  few = omega (arith, k.count, k.next.few);
  alike = All-weaker (IsAlike k.next.first) (λ a. All (λ b. IsAlike a b) (items_of r))
      (λ a h. All-weaker (IsAlike k.next.first) (IsAlike a) (λ b g. chain a k.next.first b (flip k.next.first a h) g) (items_of r) k.alike) (items_of r) k.alike;
  records = ap (λ (x : DataRecord). x.records_in_tx) k.next.is;
  parts = ap (λ (x : DataRecord). x.parts_in_tx) k.next.is;
}

apart : (f g : Captured) (xs ys : List Captured) → All (IsAlike f) xs → All (IsAlike g) ys → ¬ (IsAlike f g) → All (λ a. All (λ b. ¬ (IsAlike a b)) ys) xs
apart f g xs ys of_f of_g differ k d lt j e lt' same =
    differ (chain f (get_or xs k d) g (of_f k d lt) (chain (get_or xs k d) (get_or ys j e) g same (flip g (get_or ys j e) (of_g j e lt'))))

-- a record that is not full and the one behind it
ended : (items after later : List Captured) (n m : ℕ) (r s : DataRecord) → Known items after n r → Known after later m s → length r.mods < 32
    → All (λ a. All (λ b. ¬ (IsAlike a b)) (items_of s)) (items_of r)
ended items after later n m r s k l short =
    apart k.next.first l.next.first (items_of r) (items_of s) k.alike l.alike (k.next.ends (omega (arith, k.count, short)) l.next.first (l.next.more ++ later) l.next.split)

abbrev Full : List DataRecord → Type 0
Full records = (k : ℕ) (d : DataRecord) → suc k < length records → length (get_or records k d).mods < 32
    → All (λ a. All (λ b. ¬ (IsAlike a b)) (items_of (get_or records (suc k) d))) (items_of (get_or records k d))

full_first : (items after : List Captured) (n m : ℕ) (r : DataRecord) (records : List DataRecord) → AreOfOne after → Known items after n r → AreCut m after records → Full records → Full (r ∷ records)
full_first items after n m r [] ones k cut h j d lt short = absurd (omega (arith, lt))
full_first items after n m r (s ∷ records) ones k cut h zero d lt short = ended items after cut.0 n m r s k (known after cut.0 m s ones cut.1) short
full_first items after n m r (s ∷ records) ones k cut h (suc j) d lt short = h j d (omega (arith, lt)) short

last_first : (m : ℕ) (after : List Captured) (records : List DataRecord) → AreCut m after records → (is_nil after ≡ true) ↔ (1 ≡ suc (length records))
last_first m after [] cut = (λ _. refl, λ _. ap is_nil cut)
last_first m after (s ∷ records) cut =
    let some : is_nil after ≡ false = ap is_nil cut.1.split in
    (λ t. absurd (let no : false ≡ true = sym some ∙ t in cc), λ e. absurd (omega (arith, e)))

pub records_of : (n : ℕ) (items : List Captured) (records : List DataRecord) → AreOfOne items → AreCut n items records → AreRecordsOf items n records
records_of n items [] ones cut = record {
  told = sym cut;
  groups = All-nil IsGroup;
  full = λ k d lt. absurd (omega (arith, lt));
  sequences = λ k d lt. absurd (omega (arith, lt));
  last = λ k d lt. absurd (omega (arith, lt));
}
records_of n items (r ∷ records) ones cut =
    let k = known items cut.0 n r ones cut.1 in
    let after = after_ones items cut.0 n r ones cut.1 in
    let rest = records_of (n + 1) cut.0 records after cut.2 in
    record {
      told = (λ i. k.told i ++ rest.told i) ∙ sym k.next.split;
      groups = All-cons IsGroup r records (group_of items cut.0 n r k) rest.groups;
      full = full_first items cut.0 n (n + 1) r records after k cut.2 rest.full;
      sequences = sequences_first n r records (ap (λ (x : DataRecord). x.sequence) cut.1.is) rest.sequences;
      last = last_of r records (is_nil cut.0) (ap (λ (x : DataRecord). x.is_last) cut.1.is) (last_first (n + 1) cut.0 records cut.2) rest.last;
    }
  where
    sequences_first : (n : ℕ) (r : DataRecord) (records : List DataRecord) → r.sequence ≡ n → ((k : ℕ) (d : DataRecord) → k < length records → (get_or records k d).sequence ≡ (n + 1) + k)
        → (k : ℕ) (d : DataRecord) → k < length (r ∷ records) → (get_or (r ∷ records) k d).sequence ≡ n + k
    sequences_first n r records is h zero d lt = omega (arith, is)
    sequences_first n r records is h (suc k) d lt = let e = h k d (omega (arith, lt)) in omega (arith, e)

    last_of : (r : DataRecord) (records : List DataRecord) (b : Bool) → r.is_last ≡ b → ((b ≡ true) ↔ (1 ≡ suc (length records)))
        → ((k : ℕ) (d : DataRecord) → k < length records → ((get_or records k d).is_last ≡ true) ↔ (suc k ≡ length records))
        → (k : ℕ) (d : DataRecord) → k < length (r ∷ records) → ((get_or (r ∷ records) k d).is_last ≡ true) ↔ (suc k ≡ length (r ∷ records))
    last_of r records b is first h zero d lt = (λ t. first.0 (sym is ∙ t), λ e. is ∙ first.1 e)
    last_of r records b is first h (suc k) d lt =
        let there = h k d (omega (arith, lt)) in
        (λ t. ap suc (there.0 t), λ e. there.1 (omega (arith, e)))

-- the changes that the records tell
pub changes_back : (r : DataRecord) (mods : List Mod) → map (λ (c : Captured). c.change) (map (item_of r) mods) ≡ map (change_of r) mods
changes_back r [] = refl
changes_back r (m ∷ mods) = ap (λ (cs : List Change). change_of r m ∷ cs) (changes_back r mods)

pub all_changes : (records : List DataRecord) → map (λ (c : Captured). c.change) (flat_map items_of records) ≡ flat_map changes_told records
all_changes [] = refl
all_changes (r ∷ records) = map-append (λ (c : Captured). c.change) (items_of r) (flat_map items_of records) ∙ (λ i. changes_back r r.mods i ++ all_changes records i)

-- one record more, cut from the front of what is left
pub cut_more : (first sequence at count : ℕ) (captured : List Captured) (done : List DataRecord) (r : DataRecord) → IsNext sequence (drop at captured) (drop (at + count) captured) r
    → ((more : List DataRecord) → AreCut sequence (drop at captured) more → AreCut first captured (done ++ more))
    → (more : List DataRecord) → AreCut (sequence + 1) (drop (at + count) captured) more → AreCut first captured ((done ++ r ∷ []) ++ more)
cut_more first sequence at count captured done r next had more cut =
    subst (AreCut first captured) (sym (append_assoc done (r ∷ []) more)) (had (r ∷ more) (drop (at + count) captured, next, cut))
