-- What a stream captures of a history has the order of the history.
use Rattle.std.proofs.Common.{◌≡◌, ◌≢◌, ℕ, ◌≤◌, Bool, true, false, ◌==◌, cond, nat_le, List, [], ◌∷◌, ◌++◌, length, filter, Option, None, Some, ⊎_elim, refl, sym, ap, ◌∙◌, subst, arith, Contains}
use Rattle.std.specs.List.{cons_option}
use Rattle.std.proofs.lemmas.Bool.{leb-true}
use Rattle.cs_types.specs.Members.{Pairwise, in_nil, in_head, in_tail, in_cons, pairs_to}
use Rattle.cs_records.specs.declared.captured.Captured.{Captured}
use Rattle.cs_records.specs.Group.{Agree, HasItsColumns}
use Rattle.cs_schema.specs.declared.types.Table.{Table}
use Rattle.cs_schema.specs.declared.types.Stream.{Stream}
use Rattle.cs_schema.specs.Sound.{IsSoundCatalog}
use Rattle.cs_txn.specs.declared.txn.Modification.{Modification}
use Rattle.cs_txn.specs.Fits.{FitsCatalog, EachFits, IsHistoryOf}
use Rattle.cs_txn.specs.History.{IsHistory}
use Rattle.cs_capture.specs.Captured.{captured}
use Rattle.cs_steps.specs.Captures.{captured_since, captured_items, CapturedIsCommitted}
use Rattle.cs_steps.proofs.Order.{Later, in_order}
use Rattle.cs_steps.proofs.Told.{is_of}

-- what the law on captured changes says
pub record CanBeGrouped : Type 0 where
  pub columns : (tables : List Table) (streams : List Stream) (stream : Stream) (m : Modification) (c : Captured) → IsSoundCatalog tables streams → FitsCatalog tables m → captured tables stream m ≡ Some c → HasItsColumns c
  pub transaction : (tables : List Table) (streams : List Stream) (stream : Stream) (ms : List Modification) (m n : Modification) (c d : Captured) → IsSoundCatalog tables streams → IsHistoryOf tables ms → IsHistory ms → Contains ms m → Contains ms n → m.tx ≡ n.tx → captured tables stream m ≡ Some c → captured tables stream n ≡ Some d → Agree c d

fits_from : (tables : List Table) (earlier ms : List Modification) → EachFits tables earlier ms → (m : Modification) → Contains ms m → FitsCatalog tables m
fits_from tables earlier [] h m i = absurd (in_nil m i)
fits_from tables earlier (x ∷ ms) h m i = ⊎_elim
    (λ (s : m ≡ x). subst (FitsCatalog tables) (sym s) h.0.fits)
    (λ (j : Contains ms m). fits_from tables (earlier ++ x ∷ []) ms h.1 m j)
    (in_cons x m ms i)

module _ (tables : List Table) (s : Stream) where
  -- a captured change with its modification
  pub record Source (ms : List Modification) (c : Captured) : Type 0 where
    pub m : Modification
    pub there : Contains ms m
    pub is : captured tables s m ≡ Some c
    pub born : s.created ≤ m.stamp

  pub since_from : (m : Modification) (c : Captured) → captured_since tables s m ≡ Some c → (captured tables s m ≡ Some c) × (s.created ≤ m.stamp)
  since_from m c e = by (nat_le s.created m.stamp) refl e
    where
      by : (b : Bool) → nat_le s.created m.stamp ≡ b → cond b (captured tables s m) None ≡ Some c → (captured tables s m ≡ Some c) × (s.created ≤ m.stamp)
      by true t h = (h, leb-true s.created m.stamp t)
      by false t h = cc

  from_items : (ms : List Modification) (c : Captured) → Contains (captured_items tables s ms) c → Source ms c
  from_items [] c i = absurd (in_nil c i)
  from_items (m ∷ ms) c i = by (captured_since tables s m) refl i (from_items ms c)
    where
      further : Source ms c → Source (m ∷ ms) c
      further r = record { m = r.m; there = in_tail m r.m ms r.there; is = r.is; born = r.born }

      by : (o : Option Captured) → captured_since tables s m ≡ o → Contains (cons_option o (captured_items tables s ms)) c → (Contains (captured_items tables s ms) c → Source ms c) → Source (m ∷ ms) c
      by None e j f = further (f j)
      by (Some d) e j f = ⊎_elim
          (λ (k : c ≡ d). let u = since_from m c (e ∙ ap Some (sym k)) in record { m = m; there = in_head m ms; is = u.0; born = u.1 })
          (λ (k : Contains (captured_items tables s ms) c). further (f k))
          (in_cons d c (captured_items tables s ms) j)

  abbrev R : Captured → Captured → Type 0
  R a b = (a.change.stamp ≤ b.change.stamp) × (a.change.stamp ≡ b.change.stamp → a.change.row ≢ b.change.row)

  related : (m n : Modification) (c d : Captured) → captured tables s m ≡ Some c → captured tables s n ≡ Some d → Later m n → R c d
  related m n c d e f h =
      let a = is_of tables s m c e in
      let b = is_of tables s n d f in
      (omega (arith, a.stamp, b.stamp, h.0), λ t r. h.1 (sym a.stamp ∙ t ∙ b.stamp) (sym a.row ∙ r ∙ b.row))

  pairs_items : (ms : List Modification) → Pairwise Later ms → Pairwise R (captured_items tables s ms)
  pairs_items [] h = tt
  pairs_items (m ∷ ms) h = by (captured_since tables s m) refl (pairs_items ms h.1)
    where
      by : (o : Option Captured) → captured_since tables s m ≡ o → Pairwise R (captured_items tables s ms) → Pairwise R (cons_option o (captured_items tables s ms))
      by None e k = k
      by (Some d) e k = (λ y i. let u = from_items ms y i in related m u.m d y (since_from m d e).0 u.is (h.0 u.m u.there), k)

  few_items : (stamp : ℕ) (ms : List Modification) → length (filter (λ (c : Captured). c.change.stamp == stamp) (captured_items tables s ms)) ≤ length (filter (λ (m : Modification). m.stamp == stamp) ms)
  few_items stamp [] = omega arith
  few_items stamp (m ∷ ms) = by (captured_since tables s m) refl (few_items stamp ms)
    where
      more : (b : Bool) (xs : List Modification) → length xs ≤ length (cond b (m ∷ xs) xs)
      more true xs = omega arith
      more false xs = omega arith

      one : (d : Captured) (a b : Bool) → a ≡ b → (xs : List Captured) (ys : List Modification) → length xs ≤ length ys → length (cond a (d ∷ xs) xs) ≤ length (cond b (m ∷ ys) ys)
      one d true true e xs ys h = omega arith
      one d false false e xs ys h = h
      one d true false e xs ys h = cc
      one d false true e xs ys h = cc

      by : (o : Option Captured) → captured_since tables s m ≡ o → length (filter (λ (x : Captured). x.change.stamp == stamp) (captured_items tables s ms)) ≤ length (filter (λ (x : Modification). x.stamp == stamp) ms) → length (filter (λ (c : Captured). c.change.stamp == stamp) (cons_option o (captured_items tables s ms))) ≤ length (filter (λ (x : Modification). x.stamp == stamp) (m ∷ ms))
      by None e h = let k = more (m.stamp == stamp) (filter (λ (x : Modification). x.stamp == stamp) ms) in omega (arith, h, k)
      by (Some d) e h = one d (d.change.stamp == stamp) (m.stamp == stamp) (ap (λ t. t == stamp) (is_of tables s m d (since_from m d e).0).stamp) (filter (λ (c : Captured). c.change.stamp == stamp) (captured_items tables s ms)) (filter (λ (x : Modification). x.stamp == stamp) ms) h

pub committed : CanBeGrouped → CapturedIsCommitted
committed L tables streams s ms K =
    let G = in_order ms K.history in
    record {
      born = λ c i. let u = from_items tables s ms c i in let e = (is_of tables s u.m c u.is).stamp in omega (arith, e, u.born);
      order = pairs_to (R tables s) (captured_items tables s ms) (pairs_items tables s ms G.order);
      agree = λ a b i j t.
          let u = from_items tables s ms a i in
          let v = from_items tables s ms b j in
          let tx : u.m.tx ≡ v.m.tx = sym (is_of tables s u.m a u.is).tx ∙ t ∙ (is_of tables s v.m b v.is).tx in
          L.transaction tables streams s ms u.m v.m a b K.catalog K.fits K.history u.there v.there tx u.is v.is;
      columns = λ c i. let u = from_items tables s ms c i in L.columns tables streams s u.m c K.catalog (fits_from tables [] ms K.fits u.m u.there) u.is;
      few = λ stamp. let a = few_items tables s stamp ms in let b = K.few stamp in omega (arith, a, b);
    }
