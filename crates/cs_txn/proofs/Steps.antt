-- One step of each loop over a list.
use Rattle.std.proofs.Common.{◌≡◌, ◌∙◌, sym, ap, subst, refl, ℕ, zero, suc, ◌+◌, ◌<◌, ◌≤◌, List, [], ◌∷◌, ◌++◌, length, map, take, drop, get_or, Some, None, cond, false, true, Bool, is_some, arith, append_assoc}
use Rattle.std.specs.declared.option.Option.{Option}
use Rattle.std.specs.HashMap.{HashMap, get}
use Rattle.std.specs.Map.{lookup}
use Rattle.std.proofs.lemmas.List.{take_more, take_all, drop_more, length-append, length-map, length-take-le}
use Rattle.cs_types.specs.declared.change.RowName.{RowName}
use Rattle.cs_types.specs.Row.{same_row}
use Rattle.cs_txn.specs.Digests.{row_eq}
use Rattle.cs_txn.specs.declared.txn.Write.{Write}
use Rattle.cs_txn.specs.declared.fault.TxnFault.TheVariants.{RowTwice}
use Rattle.cs_txn.specs.declared.txn.Modification.{Modification}
use Rattle.cs_txn.specs.Places.{PlacesOf, rows_of}
use Rattle.cs_txn.specs.Faults.{is_named, twice_behind, NamesOf}
use Rattle.cs_txn.proofs.Places.{places_more}

pub take_next : {X : Type 0} (xs : List X) (i : ℕ) (x : X) → i < length xs → x ≡ get_or xs i x → take (i + 1) xs ≡ take i xs ++ x ∷ []
take_next xs i x lt e = take_more xs i x lt ∙ ap (λ y. take i xs ++ y ∷ []) (sym e)

pub drop_next : {X : Type 0} (xs : List X) (i : ℕ) (x : X) → i < length xs → x ≡ get_or xs i x → drop i xs ≡ x ∷ drop (i + 1) xs
drop_next xs i x lt e = drop_more xs i x lt ∙ ap (λ y. y ∷ drop (i + 1) xs) (sym e)

length_before : {X : Type 0} (xs ys : List X) (i : ℕ) → i < length ys → length (xs ++ take i ys) ≡ length xs + i
length_before xs ys i lt = length-append xs (take i ys) ∙ ap (λ n. length xs + n) (length-take-le i ys (omega arith))

-- one modification more is taken, and it is of the row at its place

one_of : (added : List Modification) (i : ℕ) → i < length added → Modification
one_of [] i lt = absurd (omega (arith, lt))
one_of (x ∷ xs) i lt = x

row_at : (added : List Modification) (i : ℕ) (d : Modification) (r : RowName) → i < length added → get_or (map (λ (m : Modification). m.row) added) i r ≡ (get_or added i d).row
row_at [] i d r lt = absurd (omega (arith, lt))
row_at (x ∷ xs) zero d r lt = refl
row_at (x ∷ xs) (suc i) d r lt = row_at xs i d r (omega (arith, lt))

taken : (added : List Modification) (i : ℕ) (r : RowName) → i < length added → (x : Modification) × (take (i + 1) added ≡ take i added ++ x ∷ []) × (get_or (map (λ (m : Modification). m.row) added) i r ≡ x.row)
taken added i r lt = let d = one_of added i lt in (get_or added i d, take_more added i d lt, row_at added i d r lt)

-- a key stands in its list behind those that are done
here : (done rest : List RowName) (k : RowName) → k ≡ get_or (done ++ k ∷ rest) (length done) k
here [] rest k = refl
here (d ∷ done) rest k = here done rest k

module _ {S : Type 0} where
  put_at : (m n : HashMap RowName ℕ S) (items added : List Modification) (keys : List RowName) (i place : ℕ) (k : RowName) → keys ≡ map (λ (m : Modification). m.row) added → i < length keys → k ≡ get_or keys i k → place ≡ length items + i
      → PlacesOf (items ++ take i added) m
      → ((q : RowName) → get row_eq n q ≡ cond (row_eq k q) (Some place) (get row_eq m q))
      → PlacesOf (items ++ take (i + 1) added) n
  put_at m n items added keys i place k rows lt e at h u =
      let P : List Modification → Type 0 = λ ms. PlacesOf ms n in
      let within : i < length added = subst (λ c. i < c) (ap length rows ∙ length-map added (λ (m : Modification). m.row)) lt in
      let t = taken added i k within in
      let row : k ≡ t.0.row = e ∙ ap (λ l. get_or l i k) rows ∙ t.2 in
      let len : place ≡ length (items ++ take i added) = at ∙ sym (length_before items added i within) in
      let is : (items ++ take i added) ++ t.0 ∷ [] ≡ items ++ take (i + 1) added = append_assoc items (take i added) (t.0 ∷ []) ∙ ap (λ ms. items ++ ms) (sym t.1) in
      subst P is (places_more m n (items ++ take i added) t.0 h (λ q. u q
      ∙ ap (λ p. cond (row_eq k q) (Some p) (get row_eq m q)) len
      ∙ ap (λ r. cond (row_eq r q) (Some (length (items ++ take i added))) (get row_eq m q)) row))

  pub put_places : (m n : HashMap RowName ℕ S) (items added : List Modification) (keys done rest : List RowName) (place : ℕ) (k : RowName)
      → keys ≡ map (λ (m : Modification). m.row) added → done ++ k ∷ rest ≡ keys → place ≡ length items + length done
      → PlacesOf (items ++ take (length done) added) m
      → ((q : RowName) → get row_eq n q ≡ cond (row_eq k q) (Some place) (get row_eq m q))
      → PlacesOf (items ++ take (length (done ++ k ∷ [])) added) n
  put_places m n items added keys done rest place k rows all at h u =
      let P : ℕ → Type 0 = λ i. PlacesOf (items ++ take i added) n in
      let long : length keys ≡ length done + (length rest + 1) = ap length (sym all) ∙ length-append done (k ∷ rest) ∙ omega arith in
      let one : length done + 1 ≡ length (done ++ k ∷ []) = sym (length-append done (k ∷ [])) in
      subst P one (put_at m n items added keys (length done) place k rows (omega (arith, long)) (here done rest k ∙ ap (λ l. get_or l (length done) k) all) at h u)

  pub all_put : (m : HashMap RowName ℕ S) (items added : List Modification) (keys done rest : List RowName) → keys ≡ map (λ (m : Modification). m.row) added → done ++ rest ≡ keys → length rest ≡ 0
      → PlacesOf (items ++ take (length done) added) m → PlacesOf (items ++ added) m
  all_put m items added keys done rest rows all none h =
      let P : List Modification → Type 0 = λ ms. PlacesOf (items ++ ms) m in
      let long : length added ≡ length done + length rest = sym (length-map added (λ (m : Modification). m.row)) ∙ ap length (sym rows) ∙ ap length (sym all) ∙ length-append done rest in
      subst P (take_all (length done) added (omega (arith, long, none))) h

-- names

named_more : (q : RowName) (ws : List Write) (w : Write) → is_named q (ws ++ w ∷ []) ≡ cond (same_row w.row q) true (is_named q ws)
named_more q [] w = refl
named_more q (x ∷ ws) w =
    ap (cond (same_row x.row q) true) (named_more q ws w)
    ∙ both (same_row x.row q) (same_row w.row q)
  where
    both : (a b : Bool) → cond a true (cond b true (is_named q ws)) ≡ cond b true (cond a true (is_named q ws))
    both true true = refl
    both true false = refl
    both false true = refl
    both false false = refl

some_cond : (b : Bool) (o : Option (Unit {0})) → is_some (cond b (Some tt) o) ≡ cond b true (is_some o)
some_cond true o = refl
some_cond false o = refl

-- the write of a row at its place
pub write_at : (ws : List Write) (i : ℕ) (r : RowName) → i < length (rows_of ws) → (w : Write) × (i < length ws) × (w ≡ get_or ws i w) × (get_or (rows_of ws) i r ≡ w.row)
write_at [] i r lt = absurd (omega (arith, lt))
write_at (w ∷ ws) zero r lt = (w, omega arith, refl, refl)
write_at (w ∷ ws) (suc i) r lt = let t = write_at ws i r (omega (arith, lt)) in (t.0, omega (arith, t.1), t.2, t.3)

pub names_step : {K S : Type 0} (row : K → RowName) (m n : HashMap K (Unit {0}) S) (ws : List Write) (i : ℕ) (w : Write) (k : K) → i < length ws → w ≡ get_or ws i w → row k ≡ w.row
    → NamesOf row (take i ws) m
    → ((q : K) → get (λ a b. same_row (row a) (row b)) n q ≡ cond (same_row (row k) (row q)) (Some tt) (get (λ a b. same_row (row a) (row b)) m q))
    → NamesOf row (take (i + 1) ws) n
names_step row m n ws i w k lt e is h u q =
    ap is_some (u q) ∙ some_cond (same_row (row k) (row q)) (get (λ a b. same_row (row a) (row b)) m q)
    ∙ ap (cond (same_row (row k) (row q)) true) (h q)
    ∙ ap (λ r. cond (same_row r (row q)) true (is_named (row q) (take i ws))) is
    ∙ sym (named_more (row q) (take i ws) w)
    ∙ ap (is_named (row q)) (sym (take_next ws i w lt e))

-- no write is named behind none, and a key that a map gives is named
pub names_none : {K S : Type 0} (row : K → RowName) (m : HashMap K (Unit {0}) S) → m.entries ≡ [] → NamesOf row [] m
names_none row m e q = ap (λ es. is_some (lookup (λ b. same_row (row q) (row b)) es)) e

pub named_by : {K S : Type 0} (row : K → RowName) (m : HashMap K (Unit {0}) S) (ws : List Write) (k : K) (o : Option (Unit {0})) → NamesOf row ws m → o ≡ get (λ a b. same_row (row a) (row b)) m k → is_named (row k) ws ≡ is_some o
named_by row m ws k o h e = sym (h k) ∙ ap is_some (sym e)

pub none_left : (ws es : List Write) (i : ℕ) → length (rows_of ws) ≤ i → twice_behind es (drop i ws) ≡ None
none_left [] es zero le = refl
none_left [] es (suc i) le = refl
none_left (w ∷ ws) es zero le = absurd (omega (arith, le))
none_left (w ∷ ws) es (suc i) le = none_left ws es i (omega (arith, le))

pub twice_step : (ws : List Write) (i : ℕ) (w : Write) → i < length ws → w ≡ get_or ws i w → is_named w.row (take i ws) ≡ false
    → twice_behind (take (i + 1) ws) (drop (i + 1) ws) ≡ twice_behind (take i ws) (drop i ws)
twice_step ws i w lt e f =
    ap (λ xs. twice_behind xs (drop (i + 1) ws)) (take_next ws i w lt e)
    ∙ sym (ap (twice_behind (take i ws)) (drop_next ws i w lt e) ∙ ap (λ b. cond b (Some (RowTwice w.row)) (twice_behind (take i ws ++ w ∷ []) (drop (i + 1) ws))) f)

pub twice_here : (ws : List Write) (i : ℕ) (w : Write) → i < length ws → w ≡ get_or ws i w → is_named w.row (take i ws) ≡ true
    → twice_behind (take i ws) (drop i ws) ≡ Some (RowTwice w.row)
twice_here ws i w lt e t =
    ap (twice_behind (take i ws)) (drop_next ws i w lt e) ∙ ap (λ b. cond b (Some (RowTwice w.row)) (twice_behind (take i ws ++ w ∷ []) (drop (i + 1) ws))) t

pub one_once : (ws : List Write) → length ws < 2 → twice_behind [] ws ≡ None
one_once [] lt = refl
one_once (w ∷ []) lt = refl
one_once (w ∷ v ∷ ws) lt = absurd (omega (arith, lt))
