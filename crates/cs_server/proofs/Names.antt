-- The stream that a name names is the one that a query of this name reads.
use Rattle.std.proofs.Common.{◌≡◌, ◌≢◌, ℕ, zero, suc, ◌+◌, ◌≤◌, ◌<◌, ◌==◌, ◌&&◌, Bool, true, false, cond, List, [], ◌∷◌, ◌++◌, drop, Option, Some, slice_get, refl, sym, ap, subst, ◌∙◌, arith}
use Rattle.std.specs.Prelude.{codes}
use Rattle.std.specs.Option.{option_map}
use Rattle.std.specs.Cmp.Lexicographic.{pointwise, same_text}
use Rattle.std.proofs.lemmas.Bool.{eq-eqb}
use Rattle.std.proofs.lemmas.Option.{slice_get_within, slice_get-map, get_or_from_slice_get}
use Rattle.cs_schema.specs.declared.types.Stream.{Stream}
use Rattle.cs_schema.specs.Sound.{AreDifferent, stream_names}
use Rattle.cs_link.specs.declared.feed.Feed.{Feed}
use Rattle.cs_steps.specs.Query.{is_text, stream_from, stream_read}
use Rattle.cs_server.specs.Laws.{FeedsAreTold}
use Rattle.cs_server.specs.Typed.{place_named, feed_with, feed_at, feed_told}
use Rattle.cs_server.proofs.Asks.{told}

same_number : (a b : ℕ) → Some a ≡ Some b → a ≡ b
same_number a b e = cc

same_stream : (a b : Stream) → Some a ≡ Some b → a ≡ b
same_stream a b e = cc

zero_plus : (n : ℕ) → n ≡ 0 + n
zero_plus n = omega arith

-- a place that is found is not before the first
not_before : (n : ℕ) (word : List ℕ) (streams : List Stream) (place : ℕ) → stream_from n word streams ≡ Some place → n ≤ place
not_before n word [] place e = cc
not_before n word (s ∷ ss) place e = by (is_text word (codes "READ_" ++ s.name)) e (λ h. not_before (suc n) word ss place h)
  where
    by : (b : Bool) → cond b (Some n) (stream_from (suc n) word ss) ≡ Some place → (stream_from (suc n) word ss ≡ Some place → suc n ≤ place) → n ≤ place
    by true h f = let same : n ≡ place = same_number n place h in omega (arith, same)
    by false h f = let le : suc n ≤ place = f h in omega (arith, le)

-- the stream at the place is the one that the function names
found_by : (n : ℕ) (word : List ℕ) (streams : List Stream) (k : ℕ) (s : Stream) → stream_from n word streams ≡ Some (n + k) → slice_get streams k ≡ Some s → word ≡ codes "READ_" ++ s.name
found_by n word [] k s e i = cc
found_by n word (t ∷ ts) k s e i = by (is_text word (codes "READ_" ++ t.name)) refl e (λ j f g. found_by (suc n) word ts j s f g)
  where
    first : (j : ℕ) → n ≡ n + j → slice_get (t ∷ ts) j ≡ Some s → t ≡ s
    first zero e i = same_stream t s i
    first (suc j) e i = absurd (omega (arith, e))

    behind : (j : ℕ) → stream_from (suc n) word ts ≡ Some (n + j) → slice_get (t ∷ ts) j ≡ Some s
        → ((m : ℕ) → stream_from (suc n) word ts ≡ Some (suc n + m) → slice_get ts m ≡ Some s → word ≡ codes "READ_" ++ s.name) → word ≡ codes "READ_" ++ s.name
    behind zero e i f = let le : suc n ≤ n + zero = not_before (suc n) word ts (n + zero) e in absurd (omega (arith, le))
    behind (suc j) e i f = let shift : n + suc j ≡ suc n + j = omega arith in f j (e ∙ ap (λ (m : ℕ). Some m) shift) i

    by : (b : Bool) → is_text word (codes "READ_" ++ t.name) ≡ b → cond b (Some n) (stream_from (suc n) word ts) ≡ Some (n + k)
        → ((m : ℕ) → stream_from (suc n) word ts ≡ Some (suc n + m) → slice_get ts m ≡ Some s → word ≡ codes "READ_" ++ s.name) → word ≡ codes "READ_" ++ s.name
    by true h j f = same_text word (codes "READ_" ++ t.name) (sym h) ∙ ap (λ (x : Stream). codes "READ_" ++ x.name) (first k (same_number n (n + k) j) i)
    by false h j f = behind k j i f

pub found : (word : List ℕ) (streams : List Stream) (place : ℕ) (s : Stream) → stream_read word streams ≡ Some place → slice_get streams place ≡ Some s → word ≡ codes "READ_" ++ s.name
found word streams place s e i = found_by 0 word streams place s (e ∙ ap (λ (n : ℕ). Some n) (zero_plus place)) i

-- names that are read by the same text are the same
same_name : (a b : List ℕ) → codes "READ_" ++ a ≡ codes "READ_" ++ b → a ≡ b
same_name a b e = ap (λ (l : List ℕ). drop 5 l) e

same_bytes : (xs : List ℕ) → pointwise ◌==◌ xs xs ≡ true
same_bytes [] = refl
same_bytes (x ∷ xs) = ap (λ (b : Bool). b && pointwise ◌==◌ xs xs) (eq-eqb x x refl) ∙ same_bytes xs

-- a stream is found by its name, where none before it has that
first_found : (n : ℕ) (streams : List Stream) (k : ℕ) (s : Stream) → slice_get streams k ≡ Some s → ((j : ℕ) (t : Stream) → j < k → slice_get streams j ≡ Some t → t.name ≢ s.name) → stream_from n (codes "READ_" ++ s.name) streams ≡ Some (n + k)
first_found n [] k s i apart = cc
first_found n (t ∷ ts) zero s i apart =
    let same : is_text (codes "READ_" ++ s.name) (codes "READ_" ++ t.name) ≡ true = subst (λ (x : Stream). is_text (codes "READ_" ++ s.name) (codes "READ_" ++ x.name) ≡ true) (sym (same_stream t s i)) (same_bytes (codes "READ_" ++ s.name)) in
    let end : n ≡ n + zero = omega arith in
    ap (λ (b : Bool). cond b (Some n) (stream_from (suc n) (codes "READ_" ++ s.name) ts)) same ∙ ap (λ (m : ℕ). Some m) end
first_found n (t ∷ ts) (suc k) s i apart =
    by (is_text (codes "READ_" ++ s.name) (codes "READ_" ++ t.name)) refl (first_found (suc n) ts k s i (λ j u lt e. apart (suc j) u (omega (arith, lt)) e))
  where
    by : (b : Bool) → is_text (codes "READ_" ++ s.name) (codes "READ_" ++ t.name) ≡ b → stream_from (suc n) (codes "READ_" ++ s.name) ts ≡ Some (suc n + k)
        → cond b (Some n) (stream_from (suc n) (codes "READ_" ++ s.name) ts) ≡ Some (n + suc k)
    by true e h = absurd (apart zero t (omega arith) refl (sym (same_name s.name t.name (same_text (codes "READ_" ++ s.name) (codes "READ_" ++ t.name) (sym e)))))
    by false e h = let shift : suc n + k ≡ n + suc k = omega arith in h ∙ ap (λ (m : ℕ). Some m) shift

name_at : (streams : List Stream) (k : ℕ) (s : Stream) → slice_get streams k ≡ Some s → slice_get (stream_names streams) k ≡ Some s.name
name_at streams k s i = slice_get-map (λ (x : Stream). x.name) streams k ∙ ap (λ (o : Option Stream). option_map (λ (x : Stream). x.name) o) i

named_there : (streams : List Stream) → AreDifferent (stream_names streams) → (place : ℕ) (s : Stream) → slice_get streams place ≡ Some s → place_named s.name streams ≡ Some place
named_there streams differ place s i =
    first_found 0 streams place s i (λ j t lt e same.
    let here = name_at streams place s i in
    let there = name_at streams j t e in
    differ j place [] lt (slice_get_within (stream_names streams) place s.name here)
    (get_or_from_slice_get (stream_names streams) j t.name [] there ∙ same ∙ sym (get_or_from_slice_get (stream_names streams) place s.name [] here)))
    ∙ ap (λ (n : ℕ). Some n) (sym (zero_plus place))

pub feeds_told : FeedsAreTold
feeds_told = λ db name f state. (
  λ e.
      let t = told db (place_named name db.streams) f e in
      record {
        place = t.at_place;
        stream = t.stream;
        layout = t.layout;
        stream_at = t.stream_at;
        layout_at = t.layout_at;
        named = sym (same_name name t.stream.name (found (codes "READ_" ++ name) db.streams t.at_place t.stream t.place_is t.stream_at));
        feed_is = t.feed_is;
      },
  λ h.
      ap (λ (n : List ℕ). feed_told db n) (sym h.named)
      ∙ ap (λ (o : Option ℕ). feed_at db o) (named_there db.streams state.catalog.streams_differ h.place h.stream h.stream_at)
      ∙ (λ i. feed_with db (h.stream_at i) (h.layout_at i))
      ∙ ap (λ (x : Feed). Some x) h.feed_is,
)
