-- What a member is read as is what it tells, and the other way round.
use Rattle.std.proofs.Common.{◌≡◌, inl, inr, ℕ, List, [], ◌∷◌, Bool, true, false, is_some, if◌then◌else◌, Option, Some, None, option_and_then, Ok, Err, refl, ap, sym, ◌∙◌}
use Rattle.serde_json.specs.Data.{Data, null, boolean, number, string, array, object, Items, no_items, item}
use Rattle.serde_json.specs.Find.{get, as_array, as_object}
use Rattle.cs_records.specs.declared.faults.LineFault.{LineFault}
use Rattle.cs_json_reading.specs.Reading.{Reading, or_bad, of_member, required, if_there, optional, first_and, each, each_in}
use Rattle.cs_json_reading.specs.Missing.{first_in, elements}
use Rattle.cs_json_reading.specs.Telling.{Has, HasOr, Each, HasEach}

-- ---- readings

abbrev refusal : {A : Type 0} → LineFault → Reading A
refusal e = Err e

pub never : {A : Type 0} (e : LineFault) (a : A) → refusal {A = A} e ≡ Ok a → ⊥
never e a h = cc

abbrev nothing : {A : Type 0} → Option A
nothing = None

no_value : {A : Type 0} (a : A) → nothing {A = A} ≡ Some a → ⊥
no_value a h = cc

-- a part of what is read
abbrev pub in_reading : {A B : Type 0} → (A → B) → Reading A → Reading B
in_reading f (Ok a) = Ok (f a)
in_reading f (Err e) = Err e

pub same_read : {A : Type 0} (a b : A) (r : Reading A) → r ≡ Ok a → r ≡ Ok b → a ≡ b
same_read a b r h k = cc

pub guarded : {A : Type 0} (test : Bool) (x : Reading A) (e : LineFault) (a : A) → (if test then x else Err e) ≡ Ok a → x ≡ Ok a
guarded true x e a h = h
guarded false x e a h = absurd (never e a h)

-- ---- members

some_if_ok : {A : Type 0} (name : List ℕ) (a : A) (o : Option A) → or_bad name o ≡ Ok a → o ≡ Some a
some_if_ok name a None h = absurd (never _ a h)
some_if_ok name a (Some b) h = let e : b ≡ a = cc in ap Some e

pub has_if_read : {A : Type 0} (f : Data → Option A) (name : List ℕ) (d : Data) (a : A) → required f name d ≡ Ok a → Has f name d a
has_if_read {A} f name d a h = at (get name d) h
  where
    at : (o : Option Data) → of_member f name o ≡ Ok a → option_and_then f o ≡ Some a
    at None h = absurd (never _ a h)
    at (Some e) h = some_if_ok name a (f e) h

pub read_if_has : {A : Type 0} (f : Data → Option A) (name : List ℕ) (d : Data) (a : A) → Has f name d a → required f name d ≡ Ok a
read_if_has {A} f name d a h = at (get name d) h
  where
    at : (o : Option Data) → option_and_then f o ≡ Some a → of_member f name o ≡ Ok a
    at None h = absurd (no_value a h)
    at (Some e) h = ap (or_bad name) h

pub or_if_read : {A : Type 0} (otherwise : A) (f : Data → Option A) (name : List ℕ) (d : Data) (a : A) → optional otherwise f name d ≡ Ok a → HasOr otherwise f name d a
or_if_read {A} otherwise f name d a h = at (get name d) refl h
  where
    at : (o : Option Data) → get name d ≡ o → if_there otherwise f name o ≡ Ok a → HasOr otherwise f name d a
    at None e h = inl (e, (let same : otherwise ≡ a = cc in sym same))
    at (Some x) e h = inr (ap (option_and_then f) e ∙ some_if_ok name a (f x) h)

pub read_if_or : {A : Type 0} (otherwise : A) (f : Data → Option A) (name : List ℕ) (d : Data) (a : A) → HasOr otherwise f name d a → optional otherwise f name d ≡ Ok a
read_if_or {A} otherwise f name d a (inl h) = ap (if_there otherwise f name) h.0 ∙ ap Ok (sym h.1)
read_if_or {A} otherwise f name d a (inr h) = at (get name d) h
  where
    at : (o : Option Data) → option_and_then f o ≡ Some a → if_there otherwise f name o ≡ Ok a
    at None h = absurd (no_value a h)
    at (Some e) h = ap (or_bad name) h

-- ---- what has a member

object_if_there : (name : List ℕ) (d e : Data) → get name d ≡ Some e → is_some (as_object d) ≡ true
object_if_there name null e h = absurd cc
object_if_there name (boolean b) e h = absurd cc
object_if_there name (number n) e h = absurd cc
object_if_there name (string s) e h = absurd cc
object_if_there name (array ds) e h = absurd cc
object_if_there name (object ms) e h = refl

pub there_if_has : {A : Type 0} (f : Data → Option A) (name : List ℕ) (d : Data) (a : A) → Has f name d a → (e : Data) × (get name d ≡ Some e)
there_if_has {A} f name d a h = at (get name d) refl h
  where
    at : (o : Option Data) → get name d ≡ o → option_and_then f o ≡ Some a → (e : Data) × (get name d ≡ Some e)
    at None e h = absurd (no_value a h)
    at (Some x) e h = (x, e)

pub is_there : {A : Type 0} (f : Data → Option A) (name : List ℕ) (d : Data) (a : A) → Has f name d a → is_some (get name d) ≡ true
is_there f name d a h = ap is_some (there_if_has f name d a h).1

pub is_object : {A : Type 0} (f : Data → Option A) (name : List ℕ) (d : Data) (a : A) → Has f name d a → is_some (as_object d) ≡ true
is_object f name d a h = let e = there_if_has f name d a h in object_if_there name d e.0 e.1

pub object_with : (name : List ℕ) (d e : Data) → get name d ≡ Some e → is_some (as_object d) ≡ true
object_with name d e h = object_if_there name d e h

-- ---- arrays

pub each_if_read : {A : Type 0} (f : Data → Reading A) (R : A → Data → Type 0) → ((d : Data) (a : A) → f d ≡ Ok a → R a d) → (ds : Items) (xs : List A) → each f ds ≡ Ok xs → Each R xs ds
each_if_read f R g no_items [] h = tt
each_if_read f R g no_items (x ∷ xs) h = absurd cc
each_if_read {A} f R g (item d ds) xs h = at (each_if_read f R g ds) (f d) refl (each f ds) refl xs h
  where
    at : ((ys : List A) → each f ds ≡ Ok ys → Each R ys ds) → (r : Reading A) → f d ≡ r → (rs : Reading (List A)) → each f ds ≡ rs → (ys : List A) → first_and r rs ≡ Ok ys → Each R ys (item d ds)
    at ih (Err e) p rs q ys h = absurd (never e ys h)
    at ih (Ok a) p (Err e) q ys h = absurd (never e ys h)
    at ih (Ok a) p (Ok zs) q [] h = absurd cc
    at ih (Ok a) p (Ok zs) q (y ∷ ys) h = (g d y (p ∙ (let same : a ≡ y = cc in ap Ok same)), ih ys (q ∙ (let same : zs ≡ ys = cc in ap Ok same)))

pub read_if_each : {A : Type 0} (f : Data → Reading A) (R : A → Data → Type 0) → ((d : Data) (a : A) → R a d → f d ≡ Ok a) → (ds : Items) (xs : List A) → Each R xs ds → each f ds ≡ Ok xs
read_if_each f R g no_items [] h = refl
read_if_each f R g no_items (x ∷ xs) h = absurd h
read_if_each f R g (item d ds) [] h = absurd h
read_if_each f R g (item d ds) (x ∷ xs) h = rw (g d x h.0, read_if_each f R g ds xs h.1) refl

pub has_each_if_read : {A : Type 0} (f : Data → Reading A) (R : A → Data → Type 0) → ((d : Data) (a : A) → f d ≡ Ok a → R a d) → (name : List ℕ) (d : Data) (xs : List A)
    → each_in f (required as_array name d) ≡ Ok xs → HasEach R name d xs
has_each_if_read f R g name d xs h = at (required as_array name d) refl h
  where
    at : (r : Reading Items) → required as_array name d ≡ r → each_in f r ≡ Ok xs → HasEach R name d xs
    at (Err e) p h = absurd (never e xs h)
    at (Ok ds) p h = record { elements = ds; there = has_if_read as_array name d ds p; each = each_if_read f R g ds xs h }

pub read_if_has_each : {A : Type 0} (f : Data → Reading A) (R : A → Data → Type 0) → ((d : Data) (a : A) → R a d → f d ≡ Ok a) → (name : List ℕ) (d : Data) (xs : List A)
    → HasEach R name d xs → each_in f (required as_array name d) ≡ Ok xs
read_if_has_each f R g name d xs h = ap (each_in f) (read_if_has as_array name d h.elements h.there) ∙ read_if_each f R g h.elements xs h.each

pub elements_are : (name : List ℕ) (d : Data) (ds : Items) → Has as_array name d ds → elements (get name d) ≡ ds
elements_are name d ds h = at (get name d) h
  where
    at : (o : Option Data) → option_and_then as_array o ≡ Some ds → elements o ≡ ds
    at None h = absurd cc
    at (Some null) h = absurd cc
    at (Some (boolean b)) h = absurd cc
    at (Some (number n)) h = absurd cc
    at (Some (string s)) h = absurd cc
    at (Some (object ms)) h = absurd cc
    at (Some (array es)) h = cc

-- nothing is absent where nothing is absent in any element
pub none_in_each : {A : Type 0} (R : A → Data → Type 0) (g : Data → Option (List ℕ)) → ((a : A) (d : Data) → R a d → g d ≡ None) → (xs : List A) (ds : Items) → Each R xs ds → first_in g ds ≡ None
none_in_each R g k [] no_items h = refl
none_in_each R g k [] (item d ds) h = absurd h
none_in_each R g k (x ∷ xs) no_items h = absurd h
none_in_each R g k (x ∷ xs) (item d ds) h = rw (k x d h.0, none_in_each R g k xs ds h.1) refl
