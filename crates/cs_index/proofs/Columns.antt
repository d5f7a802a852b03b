-- Names of columns, one place after another.
use Rattle.std.proofs.Common.{◌≡◌, ◌≢◌, ℕ, suc, ◌+◌, ◌<◌, ◌≤◌, Bool, true, false, ◌&&◌, List, [], ◌∷◌, length, drop, get_or, refl, ap, bytes_eq}
use Rattle.std.proofs.lemmas.List.{drop_more, drop_all}
use Rattle.cs_types.specs.declared.cells.Cell.{Cell}
use Rattle.cs_types.specs.Names.{columns_of}
use Rattle.cs_steps.specs.Records.{same_names}

pub names_apart : (xs ys : List Cell) → length xs ≢ length ys → same_names (columns_of xs) (columns_of ys) ≡ false
names_apart [] [] n = absurd (n refl)
names_apart [] (y ∷ ys) n = refl
names_apart (x ∷ xs) [] n = refl
names_apart (x ∷ xs) (y ∷ ys) n = by (bytes_eq x.column y.column) (names_apart xs ys (λ e. n (ap suc e)))
  where
    by : (b : Bool) → same_names (columns_of xs) (columns_of ys) ≡ false → (b && same_names (columns_of xs) (columns_of ys)) ≡ false
    by true h = h
    by false h = refl

pub names_step : (xs ys : List Cell) (i : ℕ) (d e : Cell) → i < length xs → i < length ys
    → same_names (columns_of (drop i xs)) (columns_of (drop i ys)) ≡ (bytes_eq (get_or xs i d).column (get_or ys i e).column && same_names (columns_of (drop (i + 1) xs)) (columns_of (drop (i + 1) ys)))
names_step xs ys i d e l m = λ k. same_names (columns_of (drop_more xs i d l k)) (columns_of (drop_more ys i e m k))

pub names_end : (xs ys : List Cell) (i : ℕ) → length xs ≤ i → length ys ≤ i → same_names (columns_of (drop i xs)) (columns_of (drop i ys)) ≡ true
names_end xs ys i l m = λ k. same_names (columns_of (drop_all i xs l k)) (columns_of (drop_all i ys m k))
