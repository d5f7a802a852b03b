-- The bytes of entries.
use Rattle.std.proofs.Common.{◌≡◌, ℕ, ◌+◌, ◌≤◌, true, List, [], ◌∷◌, ◌++◌, length, flat_map, refl, ap, ◌∙◌, arith, leb}
use Rattle.std.proofs.lemmas.Bool.{and_parts, leb-true}
use Rattle.std.proofs.lemmas.List.{length-append}
use Rattle.std.proofs.lemmas.List.Concat.{flat_map-cons}
use Rattle.cs_types.specs.declared.change.Change.{Change}
use Rattle.cs_types.specs.Token.{is_token, are_token_bytes}
use Rattle.cs_link.specs.declared.batch.NewChild.{NewChild}
use Rattle.cs_schedule.specs.declared.entry.Entry.TheVariants.{Opened, Progress, Finished}
use Rattle.cs_schedule.specs.Size.{total, text_size}
use Rattle.cs_schedule.specs.Spelling.{count, number, text, list, change, child, payload}
use Rattle.cs_room.specs.Room.{change_bytes, child_bytes}

of_count : (n : ℕ) → length (count n) ≡ 4
unfolding count
of_count n = refl

of_number : (n : ℕ) → length (number n) ≡ 8
unfolding number
of_number n = refl

of_text : (bytes : List ℕ) → length (text bytes) ≡ 4 + length bytes
of_text bytes = length-append (count (length bytes)) bytes ∙ ap (λ k. k + length bytes) (of_count (length bytes))

of_list : {A : Type 0} (w : A → List ℕ) (f : A → ℕ) → ((a : A) → length (w a) ≡ f a) → (xs : List A) → length (list w xs) ≡ 4 + total f xs
of_list {A} w f h xs = length-append (count (length xs)) (flat_map w xs) ∙ ap (λ k. k + length (flat_map w xs)) (of_count (length xs)) ∙ ap (λ k. 4 + k) (all xs)
  where
    all : (ys : List A) → length (flat_map w ys) ≡ total f ys
    all [] = refl
    all (y ∷ ys) = ap length (flat_map-cons w y ys) ∙ length-append (w y) (flat_map w ys) ∙ ap (λ k. k + length (flat_map w ys)) (h y) ∙ ap (λ k. f y + k) (all ys)

of_changes : (cs : List Change) → length (list change cs) ≡ 4 + total change_bytes cs
unfolding change_bytes
of_changes cs = of_list change change_bytes (λ c. refl) cs

of_children : (xs : List NewChild) → length (list child xs) ≡ 4 + total child_bytes xs
unfolding child_bytes
of_children xs = of_list child child_bytes (λ x. refl) xs

pub size_opened : (tokens : List (List ℕ)) → length (payload (Opened tokens)) ≡ 5 + total text_size tokens
size_opened tokens = let a = of_list text text_size of_text tokens in omega (arith, a)

pub size_progress : (t : List ℕ) (n : ℕ) (cs : List Change) → length (payload (Progress t n cs)) ≡ 17 + (length t + total change_bytes cs)
size_progress t n cs =
    let a = length-append (text t) (number n ++ list change cs) in
    let b = length-append (number n) (list change cs) in
    omega (arith, a, b, of_text t, of_number n, of_changes cs)

pub size_finished : (t : List ℕ) (n : ℕ) (cs : List Change) (xs : List NewChild) → length (payload (Finished t n cs xs)) ≡ 21 + (length t + (total change_bytes cs + total child_bytes xs))
size_finished t n cs xs =
    let a = length-append (text t) (number n ++ (list change cs ++ list child xs)) in
    let b = length-append (number n) (list change cs ++ list child xs) in
    let c = length-append (list change cs) (list child xs) in
    omega (arith, a, b, c, of_text t, of_number n, of_changes cs, of_children xs)

-- a token has at most so many bytes
pub token_short : (t : List ℕ) → is_token t ≡ true → length t ≤ 1024
unfolding is_token
token_short t h = leb-true (length t) 1024 (and_parts _ (leb (length t) 1024) (and_parts _ (are_token_bytes t) h).0).1

pub frame_exact : (t : List ℕ) (n : ℕ) → length t ≡ 1024 → 5 + length (payload (Finished t n [] [])) ≡ 1050
frame_exact t n h = let a = size_finished t n [] [] in omega (arith, h, a)
