-- The streams of a state with their layouts.
use Rattle.std.proofs.Common.{◌≡◌, ℕ, zero, suc, ◌<◌, List, [], ◌∷◌, Some, length, slice_get, get_or, refl, sym, ap, ◌∙◌, subst}
use Rattle.std.proofs.lemmas.Option.{slice_get-get_or}
use Rattle.cs_schema.specs.declared.types.Stream.{Stream}
use Rattle.cs_schema.specs.declared.types.Table.{Table}
use Rattle.cs_txn.specs.declared.txn.Modification.{Modification}
use Rattle.cs_partitions.specs.Layout.{StreamParts}
use Rattle.cs_index.specs.declared.types.StreamIndex.{StreamIndex}
use Rattle.cs_index.specs.Index.{IsStreamIndex}
use Rattle.cs_script.specs.Kept.{IsLayoutOf, AreLayoutsOf}

-- what is read at a place of a list stands there
pub read_at : {A : Type 0} (xs ys : List A) (k : ℕ) (x : A) → xs ≡ ys → k < length ys → x ≡ get_or xs k x → slice_get ys k ≡ Some x
read_at xs ys k x same lt is = slice_get-get_or ys k x lt ∙ ap (λ y. Some y) (ap (λ l. get_or l k x) (sym same) ∙ sym is)

pub layout_count : (streams : List Stream) (layouts : List StreamParts) → AreLayoutsOf streams layouts → length layouts ≡ length streams
layout_count [] [] h = refl
layout_count [] (l ∷ ls) h = absurd h
layout_count (s ∷ ss) [] h = absurd h
layout_count (s ∷ ss) (l ∷ ls) h = ap suc (layout_count ss ls h.1)

same_stream : (a b : Stream) → Some a ≡ Some b → a ≡ b
same_stream a b e = cc

same_layout : (a b : StreamParts) → Some a ≡ Some b → a ≡ b
same_layout a b e = cc

pub layout_of : (streams : List Stream) (layouts : List StreamParts) (place : ℕ) (s : Stream) (l : StreamParts) → AreLayoutsOf streams layouts → slice_get streams place ≡ Some s → slice_get layouts place ≡ Some l → IsLayoutOf s l
layout_of [] layouts place s l h i j = cc
layout_of (t ∷ ts) [] place s l h i j = cc
layout_of (t ∷ ts) (k ∷ ks) zero s l h i j = subst (λ x. IsLayoutOf x l) (same_stream t s i) (subst (λ y. IsLayoutOf t y) (same_layout k l j) h.0)
layout_of (t ∷ ts) (k ∷ ks) (suc place) s l h i j = layout_of ts ks place s l h.1 i j

-- one place has one stream and one layout
pub one_stream : (streams : List Stream) (place : ℕ) (a b : Stream) → slice_get streams place ≡ Some a → slice_get streams place ≡ Some b → a ≡ b
one_stream streams place a b i j = same_stream a b (sym i ∙ j)

pub one_layout : (layouts : List StreamParts) (place : ℕ) (a b : StreamParts) → slice_get layouts place ≡ Some a → slice_get layouts place ≡ Some b → a ≡ b
one_layout layouts place a b i j = same_layout a b (sym i ∙ j)

-- an index of one stream is that of the same one
pub same_index : (ts us : List Table) (s t : Stream) (l m : StreamParts) (xs ys : List Modification) (index : StreamIndex) → us ≡ ts → t ≡ s → m ≡ l → ys ≡ xs → IsStreamIndex ts s l.parts xs index → IsStreamIndex us t m.parts ys index
same_index ts us s t l m xs ys index a b c d h =
    subst (λ (x : List Table). IsStreamIndex x t m.parts ys index) (sym a)
    (subst (λ (x : Stream). IsStreamIndex ts x m.parts ys index) (sym b)
    (subst (λ (x : StreamParts). IsStreamIndex ts s x.parts ys index) (sym c)
    (subst (λ (x : List Modification). IsStreamIndex ts s l.parts x index) (sym d) h)))
