-- A walk over one modification more.
use Rattle.std.proofs.Common.{◌≡◌, ℕ, zero, suc, ◌+◌, ◌<◌, ◌≤◌, Bool, true, false, cond, List, [], ◌∷◌, ◌++◌, length, map, filter, set, replicate, Option, None, Some, refl, sym, ap, ◌∙◌, subst, arith, append-nil, append_assoc, All, Contains, true≢false, bytes_eq, option_copied, slice_get, Result, Ok, Err, OnOk}
use Rattle.std.specs.Cmp.Lexicographic.{bytes_decides}
use Rattle.std.specs.List.Sorted.{IsPermutation}
use Rattle.std.proofs.lemmas.Grind.{flat_map-append}
use Rattle.std.proofs.lemmas.List.{nil_from_length, length-map, length-set, length-replicate, get_or-replicate, map_push}
use Rattle.std.proofs.lemmas.List.Elements.{All-nil, All-cons, All-push}
use Rattle.std.proofs.lemmas.List.Sorted.{IsPermutation-refl, length_permutation}
use Rattle.cs_place.specs.declared.part.Part.{Part}
use Rattle.cs_records.specs.declared.captured.Captured.{Captured}
use Rattle.cs_schema.specs.declared.types.Table.{Table}
use Rattle.cs_schema.specs.declared.types.Stream.{Stream}
use Rattle.cs_link.specs.Feed.{place_of}
use Rattle.cs_txn.specs.declared.txn.Modification.{Modification}
use Rattle.cs_partitions.specs.Views.{IsHolder}
use Rattle.cs_steps.specs.Captures.{captured_since, captured_items}
use Rattle.cs_steps.specs.Cursor.{IsAt}
use Rattle.cs_steps.specs.Cutting.{joined}
use Rattle.cs_steps.specs.Index.{is_end}
use Rattle.cs_steps.specs.Lines.{Line, IsLine, no_line, with_end, StartsEmpty, TakesHeld, PassesOther, EndsWhole, CutsTransactions, goes_on_with}
use Rattle.cs_steps.specs.Records.{Count, transactions}
use Rattle.cs_index.specs.declared.touched.Touched.{Touched}
use Rattle.cs_index.specs.declared.walk.Walk.{Walk}
use Rattle.cs_index.specs.Index.{captured_of, captured_at}
use Rattle.cs_index.specs.Walk.{at_index, opened_by, ended_all, follows, has_record, rest, IsFit, AreLines, AreTouched, AreEnded, HasEnded, IsGiven, IsNext, IsOf, IsUnderWay, IsWalk, Begins, HasRules}
use Rattle.cs_index.proofs.Apart.{HasOneStamp, one_stamp, held_at, do_not_tie, stands_once}
use Rattle.cs_index.proofs.Ending.{lines_end, parts_of}
use Rattle.cs_index.proofs.Sources.{since_of, one_more, none_more}
use Rattle.cs_index.proofs.Touching.{IsHeldAt, lines_given, touched_stays, touched_more}

-- ---- nothing is under way

none_has : (parts : List Part) → filter (has_record []) parts ≡ []
none_has [] = refl
none_has (p ∷ ps) = none_has ps

pub none_touched : (parts : List Part) (touched : List Touched) → touched ≡ [] → AreTouched parts [] touched
none_touched parts touched e = subst (AreTouched parts []) (sym e) (record {
  each = All-nil (λ (t : Touched). IsAt parts t.index t.part.now);
  all = subst (λ l. IsPermutation l []) (sym (none_has parts)) (IsPermutation-refl []);
})

nothing_touched : (parts : List Part) (touched : List Touched) → AreTouched parts [] touched → touched ≡ []
nothing_touched parts touched T = nil_from_length touched (sym (length-map touched (λ (t : Touched). t.part.now)) ∙ length_permutation (filter (has_record []) parts) (parts_of touched) T.all ∙ ap length (none_has parts))

-- where no part was touched, the lines stay
lines_stay : (touched : List Touched) (old new : List Line) → touched ≡ [] → AreEnded touched old new → new ≡ old
lines_stay touched old new e E =
    let none : E.order ≡ [] = nil_from_length E.order (length_permutation touched E.order E.same ∙ ap length e) in
    E.lines ∙ ap (λ l. ended_all _ 0 l old) none

-- ---- what a walk knows of the transaction under way

pub fit_from : (tables : List Table) (stream : Stream) (ms front : List Modification) (walk : Walk) → IsWalk tables stream ms front walk → IsFit walk
fit_from tables stream ms front walk W = record { count = W.lines.count; inside = λ k d l. (W.touched.each k d l).0 }

-- when the transaction under way is whole
module _ (ends : EndsWhole) (created : ℕ) (parts : List Part) (ms : List Modification) (R : HasRules created parts ms) (whole : List (List Captured)) (now : List Captured) (begun : Option Modification) (U : IsUnderWay ms created now begun) where
  S : HasOneStamp created now
  S = one_stamp ms created now begun U

  pub all_end : (touched : List Touched) (old new : List Line) → AreLines parts whole now old → AreTouched parts now touched → AreEnded touched old new → AreLines parts (whole ++ rest now) [] new
  all_end touched old new L T E = by now refl
    where
      by : (l : List Captured) → now ≡ l → AreLines parts (whole ++ rest l) [] new
      by [] e =
          let T' : AreTouched parts [] touched = subst (λ l. AreTouched parts l touched) e T in
          let L' : AreLines parts whole [] old = subst (λ l. AreLines parts whole l old) e L in
          let same : new ≡ old = lines_stay touched old new (nothing_touched parts touched T') E in
          subst (λ w. AreLines parts w [] new) (sym (append-nil whole)) (subst (AreLines parts whole []) (sym same) L')
      by (c ∷ cs) e = subst (λ l. AreLines parts (whole ++ l ∷ []) [] new) e
          (lines_end ends parts whole now touched old new L T (do_not_tie created parts R.apart now S) (stands_once created parts R.apart now S) E)

-- ---- the next captured modification

-- before its change is given to the part that holds it
pub record IsMid (created : ℕ) (ms : List Modification) (items : List Captured) (c : Captured) (walk : Walk) : Type 0 where
  pub whole : List (List Captured)
  pub now : List Captured
  pub split : joined whole ++ now ≡ items
  pub cut : transactions ((joined whole ++ now) ++ c ∷ []) ≡ whole ++ (now ++ c ∷ []) ∷ []
  pub lines : AreLines walk.parts.now whole now walk.lines.items
  pub touched : AreTouched walk.parts.now now walk.touched.items
  pub begun : IsUnderWay ms created (now ++ c ∷ []) (option_copied walk.begun)

module _ (cuts : CutsTransactions) (ends : EndsWhole) (tables : List Table) (stream : Stream) (ms front : List Modification) (m : Modification) (c : Captured) (in_ms : Contains ms m) (captured : captured_since tables stream m ≡ Some c) where
  of_m : IsOf m c
  of_m = (since_of tables stream m c captured).0

  born : stream.created ≤ m.stamp
  born = (since_of tables stream m c captured).1

  abbrev items : List Captured
  items = captured_items tables stream front

  module _ (old : Walk) (W : IsWalk tables stream ms front old) (R : HasRules stream.created old.parts.now ms) where
    -- the test is that of the definition
    same_test : (b : Modification) (now : List Captured) → Begins now b → goes_on_with now c ≡ bytes_eq b.tx m.tx
    same_test b [] h = absurd h
    same_test b (d ∷ ds) h = λ i. bytes_eq (h i) (of_m.tx i)

    longer : (b : Modification) (now : List Captured) → Begins now b → Begins (now ++ c ∷ []) b
    longer b [] h = absurd h
    longer b (d ∷ ds) h = h

    goes_on : (b : Modification) (now : List Captured) → Begins now b → transactions (joined W.whole ++ now) ≡ W.whole ++ rest now → transactions ((joined W.whole ++ now) ++ c ∷ []) ≡ W.whole ++ cond (goes_on_with now c) ((now ++ c ∷ []) ∷ []) (now ∷ (c ∷ []) ∷ [])
    goes_on b [] h e = absurd h
    goes_on b (d ∷ ds) h e = cuts (joined W.whole ++ d ∷ ds) W.whole (d ∷ ds) c e

    pub stays : follows (option_copied old.begun) m ≡ true → IsMid stream.created ms items c old
    stays t = by (option_copied old.begun) t W.begun refl
      where
        by : (o : Option Modification) → follows o m ≡ true → IsUnderWay ms stream.created W.now o → option_copied old.begun ≡ o → IsMid stream.created ms items c old
        by None t u e = absurd (true≢false (sym t))
        by (Some b) t u e =
            let same : b.tx ≡ m.tx = (bytes_decides b.tx m.tx).0 t in
            let stamp : c.change.stamp ≡ b.stamp = of_m.stamp ∙ sym (R.stamps b m u.0 in_ms same) in
            record {
              whole = W.whole;
              now = W.now;
              split = W.split;
              cut = goes_on b W.now u.1 W.cut ∙ ap (λ k. W.whole ++ cond k ((W.now ++ c ∷ []) ∷ []) (W.now ∷ (c ∷ []) ∷ [])) (same_test b W.now u.1 ∙ t);
              lines = W.lines;
              touched = W.touched;
              begun = subst (IsUnderWay ms stream.created (W.now ++ c ∷ [])) (sym e) (u.0, longer b W.now u.1, All-push (λ (x : Captured). x.change.stamp ≡ b.stamp) W.now c u.2 stamp, u.3);
            }

    pub begins : (new : Walk) → follows (option_copied old.begun) m ≡ false → HasEnded old (Some m) new → IsMid stream.created ms items c new
    begins new f E =
        let parts : List Part = old.parts.now in
        let level : joined W.whole ++ W.now ≡ joined (W.whole ++ rest W.now) ++ [] = flat W.now in
        let after : AreLines parts (W.whole ++ rest W.now) [] new.lines.items = all_end ends stream.created parts ms R W.whole W.now (option_copied old.begun) W.begun old.touched.items old.lines.items new.lines.items W.lines W.touched E.lines in
        record {
          whole = W.whole ++ rest W.now;
          now = [];
          split = sym level ∙ W.split;
          cut = ap (λ l. transactions (l ++ c ∷ [])) (sym level) ∙ by (option_copied old.begun) f W.begun;
          lines = subst (λ ps. AreLines ps (W.whole ++ rest W.now) [] new.lines.items) (sym E.parts) after;
          touched = none_touched new.parts.now new.touched.items E.touched;
          begun = subst (IsUnderWay ms stream.created (c ∷ [])) (sym E.begun_is) (in_ms, of_m.tx, All-cons (λ (x : Captured). x.change.stamp ≡ m.stamp) c [] of_m.stamp (All-nil (λ (x : Captured). x.change.stamp ≡ m.stamp)), born);
        }
      where
        flat : (now : List Captured) → joined W.whole ++ now ≡ joined (W.whole ++ rest now) ++ []
        flat [] = ap (λ w. joined w ++ []) (sym (append-nil W.whole))
        flat (d ∷ ds) = sym (append-nil (joined (W.whole ++ (d ∷ ds) ∷ [])) ∙ flat_map-append (λ (x : List Captured). x) W.whole ((d ∷ ds) ∷ []) ∙ ap (λ l. joined W.whole ++ l) (append-nil (d ∷ ds)))

        some : (b : Modification) (now : List Captured) → Begins now b → now ∷ (c ∷ []) ∷ [] ≡ rest now ++ (c ∷ []) ∷ []
        some b [] h = absurd h
        some b (d ∷ ds) h = refl

        by : (o : Option Modification) → follows o m ≡ false → IsUnderWay ms stream.created W.now o → transactions ((joined W.whole ++ W.now) ++ c ∷ []) ≡ (W.whole ++ rest W.now) ++ (c ∷ []) ∷ []
        by None t u =
            let none : W.whole ≡ [] = W.fresh u in
            (λ i. transactions ((joined (none i) ++ u i) ++ c ∷ [])) ∙ (λ i. (sym none i ++ rest (sym u i)) ++ (c ∷ []) ∷ [])
        by (Some b) t u =
            goes_on b W.now u.1 W.cut
            ∙ ap (λ k. W.whole ++ cond k ((W.now ++ c ∷ []) ∷ []) (W.now ∷ (c ∷ []) ∷ [])) (same_test b W.now u.1 ∙ t)
            ∙ ap (λ l. W.whole ++ l) (some b W.now u.1)
            ∙ sym (append_assoc W.whole (rest W.now) ((c ∷ []) ∷ []))

  pub given : TakesHeld → PassesOther → (mid new : Walk) (index source : ℕ) → IsMid stream.created ms items c mid → HasRules stream.created mid.parts.now ms → map (captured_at tables stream ms) mid.sources ≡ map Some items
      → slice_get ms source ≡ Some m → IsHolder mid.parts.now (place_of m.row) m.stamp index → IsGiven mid index source c new → IsWalk tables stream ms (front ++ m ∷ []) new
  given takes passes mid new index source M R sources place holder G =
      let parts : List Part = mid.parts.now in
      let in_time : stream.created ≤ c.change.stamp = subst (λ n. stream.created ≤ n) (sym of_m.stamp) born in
      let by_row : IsHolder parts (place_of c.change.row) m.stamp index = subst (λ r. IsHolder parts (place_of r) m.stamp index) (sym of_m.row) holder in
      let by_stamp : IsHolder parts (place_of c.change.row) c.change.stamp index = subst (λ n. IsHolder parts (place_of c.change.row) n index) (sym of_m.stamp) by_row in
      let H : IsHeldAt parts index c = held_at stream.created parts R.apart index c in_time by_stamp in
      let f : ℕ → Option Captured = captured_at tables stream ms in
      let level : length mid.sources ≡ length (joined M.whole ++ M.now) = sym (length-map mid.sources f) ∙ ap length sources ∙ length-map items Some ∙ ap length (sym M.split) in
      let here : f source ≡ Some c = ap (captured_of tables stream) place ∙ captured in
      record {
        whole = M.whole;
        now = M.now ++ c ∷ [];
        fresh = λ e. absurd (no_end M.now e);
        split = sym (append_assoc (joined M.whole) M.now (c ∷ [])) ∙ ap (λ l. l ++ c ∷ []) M.split ∙ sym (one_more tables stream front m c captured);
        cut = ap transactions (sym (append_assoc (joined M.whole) M.now (c ∷ []))) ∙ M.cut ∙ ap (λ l. M.whole ++ l) (sym (rest_more M.now));
        lines = subst (λ ps. AreLines ps M.whole (M.now ++ c ∷ []) new.lines.items) (sym G.parts)
            (subst (AreLines parts M.whole (M.now ++ c ∷ [])) (sym G.lines) (lines_given parts M.whole M.now mid.lines.items index c H M.lines takes passes (length mid.sources) level));
        touched = subst (λ ps. AreTouched ps (M.now ++ c ∷ []) new.touched.items) (sym G.parts) (by H (is_end (at_index mid.lines.items index).opened) refl);
        begun = subst (IsUnderWay ms stream.created (M.now ++ c ∷ [])) (sym G.begun) M.begun;
        sources = ap (map f) G.sources ∙ map_push f mid.sources source ∙ (λ i. sources i ++ here i ∷ []) ∙ sym (map_push Some items c) ∙ ap (map Some) (sym (one_more tables stream front m c captured));
      }
    where
      no_end : (xs : List Captured) → xs ++ c ∷ [] ≡ [] → ⊥
      no_end [] e = cc
      no_end (x ∷ xs) e = cc

      rest_more : (xs : List Captured) → rest (xs ++ c ∷ []) ≡ (xs ++ c ∷ []) ∷ []
      rest_more [] = refl
      rest_more (x ∷ xs) = refl

      by : IsHeldAt mid.parts.now index c → (b : Bool) → is_end (at_index mid.lines.items index).opened ≡ b → AreTouched mid.parts.now (M.now ++ c ∷ []) new.touched.items
      by H true e = touched_more mid.parts.now M.whole M.now mid.lines.items index c H M.lines mid.touched.items new.touched.items M.touched e (G.added e)
      by H false e = subst (AreTouched mid.parts.now (M.now ++ c ∷ [])) (sym (G.stays e)) (touched_stays mid.parts.now M.whole M.now mid.lines.items index c H M.lines mid.touched.items M.touched e)

-- ---- the whole step

pub on_ok : {A E P Q : Type 0} (r : Result A E) → (P → Q) → OnOk r P → OnOk r Q
on_ok (Ok x) f h = f h
on_ok (Err e) f h = h

ended_length : (count : Count) (sequence : ℕ) (ts : List Touched) (lines : List Line) → length (ended_all count sequence ts lines) ≡ length lines
ended_length count sequence [] lines = refl
ended_length count sequence (t ∷ ts) lines = ended_length count (sequence + opened_by lines t) ts (set lines t.index (with_end (at_index lines t.index) count sequence)) ∙ length-set lines t.index (with_end (at_index lines t.index) count sequence)

pub fit_kept : (old mid : Walk) (m : Modification) → IsFit old → (follows (option_copied old.begun) m ≡ true → mid ≡ old) → (follows (option_copied old.begun) m ≡ false → HasEnded old (Some m) mid) → IsFit mid
fit_kept old mid m F stay end = by (follows (option_copied old.begun) m) refl
  where
    by : (b : Bool) → follows (option_copied old.begun) m ≡ b → IsFit mid
    by true e = subst IsFit (sym (stay e)) F
    by false e =
        let E = end e in
        record {
          count = ap length E.lines.lines ∙ ended_length _ 0 E.lines.order old.lines.items ∙ F.count ∙ ap length (sym E.parts);
          inside = subst (λ (ts : List Touched). All (λ (t : Touched). t.index < length mid.parts.now) ts) (sym E.touched) (All-nil (λ (t : Touched). t.index < length mid.parts.now));
        }

member : (ms : List Modification) (k : ℕ) (m : Modification) → slice_get ms k ≡ Some m → Contains ms m
member [] k m e = cc
member (x ∷ xs) zero m e = (0, omega arith, some_same x m e)
  where
    some_same : (a b : Modification) → Some a ≡ Some b → a ≡ b
    some_same a b h = cc
member (x ∷ xs) (suc k) m e = let r = member xs k m e in (suc r.0, omega (arith, r.1), r.2)

pub taken : TakesHeld → PassesOther → EndsWhole → CutsTransactions → (tables : List Table) (stream : Stream) (ms front : List Modification) (old mid new : Walk) (index source : ℕ) (m : Modification) (c : Captured)
    → IsNext tables stream ms old.parts.now index source m c → IsWalk tables stream ms front old
    → (follows (option_copied old.begun) m ≡ true → mid ≡ old) → (follows (option_copied old.begun) m ≡ false → HasEnded old (Some m) mid) → IsGiven mid index source c new
    → IsWalk tables stream ms (front ++ m ∷ []) new
taken takes passes ends cuts tables stream ms front old mid new index source m c N W stay end G =
    by (follows (option_copied old.begun) m) refl
  where
    in_ms : Contains ms m
    in_ms = member ms source m N.place

    next : mid.parts.now ≡ old.parts.now → mid.sources ≡ old.sources → IsMid stream.created ms (captured_items tables stream front) c mid → IsWalk tables stream ms (front ++ m ∷ []) new
    next p s M =
        given cuts ends tables stream ms front m c in_ms N.captured takes passes mid new index source M
        (subst (λ ps. HasRules stream.created ps ms) (sym p) N.rules) (ap (map (captured_at tables stream ms)) s ∙ W.sources) N.place (subst (λ ps. IsHolder ps (place_of m.row) m.stamp index) (sym p) N.holder) G

    by : (b : Bool) → follows (option_copied old.begun) m ≡ b → IsWalk tables stream ms (front ++ m ∷ []) new
    by true e =
        let same = stay e in
        next (ap (λ (w : Walk). w.parts.now) same) (ap (λ (w : Walk). w.sources) same) (subst (IsMid stream.created ms (captured_items tables stream front) c) (sym same) (stays cuts ends tables stream ms front m c in_ms N.captured old W N.rules e))
    by false e =
        let E = end e in
        next E.parts E.sources (begins cuts ends tables stream ms front m c in_ms N.captured old W N.rules mid e E)

-- a modification that is not captured changes nothing
pub passed : (tables : List Table) (stream : Stream) (ms front : List Modification) (walk : Walk) (m : Modification) → captured_since tables stream m ≡ None → IsWalk tables stream ms front walk → IsWalk tables stream ms (front ++ m ∷ []) walk
passed tables stream ms front walk m e W = record {
  whole = W.whole;
  now = W.now;
  fresh = W.fresh;
  split = W.split ∙ sym (none_more tables stream front m e);
  cut = W.cut;
  lines = W.lines;
  touched = W.touched;
  begun = W.begun;
  sources = W.sources ∙ ap (map Some) (sym (none_more tables stream front m e));
}

-- before the first
pub started : StartsEmpty → (tables : List Table) (stream : Stream) (ms : List Modification) (walk : Walk) → walk.sources ≡ [] → walk.lines.items ≡ replicate (length walk.parts.now) no_line → walk.touched.items ≡ [] → option_copied walk.begun ≡ None → IsWalk tables stream ms [] walk
started starts tables stream ms walk s l t b = record {
  whole = [];
  now = [];
  fresh = λ _. refl;
  split = refl;
  cut = refl;
  lines = subst (AreLines walk.parts.now [] []) (sym l) (record {
    count = length-replicate (length walk.parts.now) no_line;
    line = λ k part line p q. subst (IsLine walk.parts.now part [] [] []) (sym (get_or-replicate (length walk.parts.now) k no_line line p.0) ∙ q.1) (starts walk.parts.now part);
  });
  touched = none_touched walk.parts.now walk.touched.items t;
  begun = subst (IsUnderWay ms stream.created []) (sym b) refl;
  sources = ap (map (captured_at tables stream ms)) s;
}
