-- A batch that neither ends nor catches up has something new, and over an honest link it brings its part on.
use Rattle.std.proofs.Common.{◌≡◌, ◌⊎◌, ℕ, suc, ◌+◌, ◌-◌, ◌*◌, ◌<◌, ◌≤◌, Bool, true, false, cond, not, ◌||◌, ◌&&◌, List, [], ◌∷◌, ◌++◌, Option, Some, None, is_some, ⊎_elim, inl, inr, refl, ap, ◌∙◌, sym, subst, arith, true≢false, leb, ltb, eqb, Contains}
use Rattle.std.specs.Option.{option_or}
use Rattle.std.proofs.lemmas.Bool.{ltb-true, ltb-false, leb-false, leb-true, eqb-true, or_parts, or_cases, and_parts}
use Rattle.std.proofs.lemmas.List.Elements.{Contains-append_left, Contains-append_right}
use Rattle.cs_types.specs.declared.change.Change.{Change}
use Rattle.cs_types.specs.Members.{in_nil, in_head, in_cons}
use Rattle.cs_place.specs.declared.part.Part.{Part}
use Rattle.cs_records.specs.declared.records.DataRecord.{DataRecord}
use Rattle.cs_records.specs.declared.records.Record.{Record}
use Rattle.cs_records.specs.Told.{changes_told}
use Rattle.cs_link.specs.declared.batch.Known.{Known}
use Rattle.cs_link.specs.declared.batch.Limits.{Limits}
use Rattle.cs_link.specs.declared.breach.Breach.{Breach}
use Rattle.cs_link.specs.declared.reading.Closing.{Closing}
use Rattle.cs_link.specs.declared.reading.ReadArgs.{ReadArgs}
use Rattle.cs_link.specs.declared.reading.Step.{Step}
use Rattle.cs_link.specs.declared.refusal.ReadRefusal.{ReadRefusal}
use Rattle.cs_fetch.specs.declared.so_far.SoFar.{SoFar}
use Rattle.cs_fetch.specs.declared.so_far.Tally.{Tally}
use Rattle.cs_link.specs.Batch.{is_known, is_seen}
use Rattle.cs_fetch.specs.Breach.{end_breach, end_breach_of, only_if}
use Rattle.cs_link.specs.Causes.{one_more}
use Rattle.cs_fetch.specs.Fetch.{counted_in, idled, is_full, none_counted, closed_by, IfGives, outcome_of}
use Rattle.cs_link.specs.Honest.{MayGive, MayFollow, MayGiveFirst, MayFollowFirst, HasHonestSteps, IsHonestAnswer}
use Rattle.cs_fetch.specs.Keeping.{is_new, is_kept, keep, has_new}
use Rattle.cs_fetch.specs.Laws.{HonestBringsOn}
use Rattle.cs_link.specs.Pace.{Grows, BringsOn, pace}
use Rattle.cs_link.specs.Reading.{end_of}
use Rattle.cs_link.specs.Refusal.{IsRefusedBy}
use Rattle.cs_fetch.specs.SoFar.{so_far, adds, with_record}
use Rattle.cs_fetch.proofs.Faithful.{its_stamp, not_true}
use Rattle.cs_fetch.proofs.Lawful.{there}
use Rattle.cs_fetch.proofs.Lists.{some_of, place}
use Rattle.cs_fetch.proofs.Past.{some_change}
use Rattle.cs_fetch.proofs.Walking.{Lasts, walks}

-- ---- what is kept stays, and something new is kept

abbrev SomeIn : List Change → Type 0
SomeIn cs = (c : Change) × Contains cs c

module _ (known : Known) where
  keep_kept : (kept cs : List Change) (c : Change) → Contains kept c → Contains (keep known kept cs) c
  keep_kept kept [] c i = i
  keep_kept kept (a ∷ cs) c i = by (is_new known kept a) (keep_kept kept cs c i) (keep_kept (kept ++ a ∷ []) cs c (Contains-append_left kept (a ∷ []) c i))
    where
      by : (b : Bool) → Contains (keep known kept cs) c → Contains (keep known (kept ++ a ∷ []) cs) c → Contains (keep known (cond b (kept ++ a ∷ []) kept) cs) c
      by true f g = g
      by false f g = f

  -- a change that is not known is kept, or one like it was
  keep_some : (kept cs : List Change) (c : Change) → Contains cs c → is_known known c ≡ false → SomeIn (keep known kept cs)
  keep_some kept [] c i h = absurd (in_nil c i)
  keep_some kept (a ∷ cs) c i h = by (is_new known kept a) refl (in_cons a c cs i) (λ j. keep_some kept cs c j h)
    where
      by : (b : Bool) → is_new known kept a ≡ b → (c ≡ a) ⊎ Contains cs c → (Contains cs c → SomeIn (keep known kept cs)) → SomeIn (keep known (cond b (kept ++ a ∷ []) kept) cs)
      by true g j f = (a, keep_kept (kept ++ a ∷ []) cs a (Contains-append_right kept (a ∷ []) a (in_head a [])))
      by false g (inr j) f = f j
      by false g (inl s) f =
          ⊎_elim
          (λ (y : is_known known a ≡ true). absurd (true≢false (sym y ∙ sym (ap (is_known known) s) ∙ h)))
          (λ (y : is_kept kept a ≡ true). let u = some_of _ kept y in (u.0, keep_kept kept cs u.0 u.1))
          (or_cases (is_known known a) (is_kept kept a) (not_false (is_known known a || is_kept kept a) g))
        where
          not_false : (b : Bool) → not b ≡ false → b ≡ true
          not_false true h = refl
          not_false false h = absurd (true≢false h)

  keep_new : (kept cs : List Change) → has_new known kept cs ≡ true → SomeIn (keep known kept cs)
  keep_new kept cs h =
      let u = some_of (is_new known kept) cs h in
      keep_some kept cs u.0 u.1 (or_parts (is_known known u.0) (is_kept kept u.0) (not_true (is_known known u.0 || is_kept kept u.0) u.2)).0

-- ---- over every link

abbrev Grown : Known → SoFar → Type 0
Grown known s = SomeIn s.changes ⊎ (known.through < s.marks.through)

record Growing (known : Known) (s : SoFar) (t : Tally) : Type 0 where
  pub low : known.through ≤ s.marks.through
  pub idle : t.idle < 8192
  -- as long as no child record came, there are few records that added nothing
  pub long : s.marks.listed ≡ None → s.marks.records ≤ 8192 * t.count + t.idle
  pub grown : 1 ≤ t.count → Grown known s

or_some : (o : Option ℕ) (x : ℕ) → option_or o (Some x) ≡ None → ⊥
or_some None x h = cc
or_some (Some u) x h = cc

module _ (known : Known) (s : SoFar) where
  -- what has grown stays so
  still : (item : Record) → Grown known s → Grown known (with_record known s item)
  still (Record.Change item) (inl h) = inl (h.0, keep_kept known s.changes (changes_told item) h.0 h.1)
  still (Record.Change item) (inr h) = inr (omega (arith, h))
  still (Record.Heartbeat at) (inl h) = inl h
  still (Record.Heartbeat at) (inr h) = inr (omega (arith, h))
  still (Record.Children item) (inl h) = inl h
  still (Record.Children item) (inr h) = inr h

  lower : (item : Record) → known.through ≤ s.marks.through → known.through ≤ (with_record known s item).marks.through
  lower (Record.Change item) l = omega (arith, l)
  lower (Record.Heartbeat at) l = omega (arith, l)
  lower (Record.Children item) l = l

  data_grows : (item : DataRecord) → known.through ≤ s.marks.through → adds known s (Record.Change item) ≡ true → Grown known (with_record known s (Record.Change item))
  data_grows item l a =
      ⊎_elim
      (λ (h : has_new known s.changes (changes_told item) ≡ true). inl (keep_new known s.changes (changes_told item) h))
      (λ (h : ltb s.marks.through (item.stamp - 1) ≡ true). let g = ltb-true s.marks.through (item.stamp - 1) h in inr (omega (arith, g, l)))
      (or_cases (has_new known s.changes (changes_told item)) (ltb s.marks.through (item.stamp - 1)) a)

  beat_grows : (at : ℕ) → known.through ≤ s.marks.through → adds known s (Record.Heartbeat at) ≡ true → Grown known (with_record known s (Record.Heartbeat at))
  beat_grows at l a = let g = ltb-true s.marks.through at a in inr (omega (arith, g, l))

  grows_on : (t : Tally) (item : Record) → Growing known s t → adds known s item ≡ true → Growing known (with_record known s item) (counted_in t item)
  grows_on t (Record.Change item) G a =
      record {
        low = lower (Record.Change item) G.low;
        idle = omega arith;
        long = λ h. let l = G.long h in let i = G.idle in omega (arith, l, i);
        grown = λ i. data_grows item G.low a;
      }
  grows_on t (Record.Heartbeat at) G a =
      record {
        low = lower (Record.Heartbeat at) G.low;
        idle = omega arith;
        long = λ h. let l = G.long h in let i = G.idle in omega (arith, l, i);
        grown = λ i. beat_grows at G.low a;
      }
  grows_on t (Record.Children item) G a =
      record {
        low = G.low;
        idle = omega arith;
        long = λ h. absurd (or_some s.marks.listed item.start h);
        grown = λ i. still (Record.Children item) (G.grown i);
      }

  idles_on : (t : Tally) (item : Record) → Growing known s t → leb 8192 (one_more t.idle) ≡ false → Growing known (with_record known s item) (idled t)
  idles_on t (Record.Change item) G n =
      let l = leb-false 8192 (one_more t.idle) n in
      record { low = lower (Record.Change item) G.low; idle = omega (arith, l); long = λ h. let k = G.long h in omega (arith, k, l); grown = λ i. still (Record.Change item) (G.grown i) }
  idles_on t (Record.Heartbeat at) G n =
      let l = leb-false 8192 (one_more t.idle) n in
      record { low = lower (Record.Heartbeat at) G.low; idle = omega (arith, l); long = λ h. let k = G.long h in omega (arith, k, l); grown = λ i. still (Record.Heartbeat at) (G.grown i) }
  idles_on t (Record.Children item) G n =
      let l = leb-false 8192 (one_more t.idle) n in
      record { low = G.low; idle = omega (arith, l); long = λ h. absurd (or_some s.marks.listed item.start h); grown = λ i. still (Record.Children item) (G.grown i) }

  full_grows : (limits : Limits) (t : Tally) (item : Record) → Growing known s t → adds known s item ≡ true → is_full limits (counted_in t item) item ≡ true → Grown known (with_record known s item)
  full_grows limits t (Record.Change item) G a f = data_grows item G.low a
  full_grows limits t (Record.Heartbeat at) G a f = beat_grows at G.low a
  full_grows limits t (Record.Children item) G a f = absurd (true≢false (sym f))

only_not : (b : Bool) (x : Breach) → only_if b x ≡ None → b ≡ false
only_not true x h = cc
only_not false x h = refl

not_some : (o : Option ℕ) → is_some o ≡ false → o ≡ None
not_some None h = refl
not_some (Some u) h = absurd (true≢false h)

-- a READ of a part that was cut had many records and no child record
cut_late : (args : ReadArgs) (known : Known) (s : SoFar) (token : Option (List ℕ)) → end_breach_of args known s token Closing.Cut ≡ None → (8192 ≤ s.marks.records) × (s.marks.listed ≡ None)
cut_late args known s None h = cc
cut_late args known s (Some token) h =
    let v = or_parts (ltb s.marks.records 8192) (is_some s.marks.listed) (only_not (ltb s.marks.records 8192 || is_some s.marks.listed) (Breach.CutEarly s.marks.records 8192) h) in
    (ltb-false s.marks.records 8192 v.0, not_some s.marks.listed v.1)

cut_grows : (args : ReadArgs) (known : Known) (s : SoFar) (t : Tally) → Growing known s t → end_breach args known s Closing.Cut ≡ None → Grown known s
cut_grows args known s t G h = let v = cut_late args known s args.token h in let l = G.long v.1 in let i = G.idle in let w = v.0 in G.grown (omega (arith, l, i, w))

closed_grows : (args : ReadArgs) (known : Known) (s : SoFar) (t : Tally) (closing : Closing) → Growing known s t → end_breach args known s closing ≡ None → Grows known (closed_by args s closing)
closed_grows args known s t Closing.Finished G h = tt
closed_grows args known s t (Closing.CaughtUp at) G h = tt
closed_grows args known s t Closing.Cut G h = cut_grows args known s t G h

module _ (args : ReadArgs) (known : Known) (limits : Limits) where
  growing_none : Growing known (so_far known []) none_counted
  growing_none = record { low = omega arith; idle = omega arith; long = λ h. omega arith; grown = λ i. absurd (omega (arith, i)) }

  grows_lasts : Lasts args known limits (λ x. Unit {0}) (Growing known) (Grows known)
  grows_lasts = record {
    adds_some = λ s t item m G w a. grows_on known s t item G a;
    adds_none = λ s t item m G w a n. idles_on known s t item G n;
    fills = λ s t item m G w a f. full_grows known s limits t item G a f;
    closes = λ s t closing m G w. closed_grows args known s t closing G w;
  }

  pub always_grows : (steps : List Step) → IfGives (Grows known) (outcome_of args known limits steps)
  always_grows steps = walks args known limits (λ x. Unit {0}) (Growing known) (Grows known) grows_lasts steps (λ x i. tt) growing_none

-- ---- over a link whose steps bring it on

-- a data record has a change, a heartbeat is so much above the known part, and no end is below what was asked for
abbrev pub Helps : ℕ → Known → Step → Type 0
Helps much known (Step.Record (Record.Change item)) = (c : Change) × Contains (changes_told item) c
Helps much known (Step.Record (Record.Heartbeat at)) = known.through + much ≤ at
Helps much known (Step.Record (Record.Children item)) = Unit {0}
Helps much known (Step.Closing Closing.Finished) = Unit {0}
Helps much known (Step.Closing (Closing.CaughtUp at)) = ⊥
Helps much known (Step.Closing Closing.Cut) = Unit {0}

abbrev Brought : ℕ → Known → SoFar → Type 0
Brought much known s = SomeIn s.changes ⊎ ((s.marks.through ≡ known.through) ⊎ (known.through + much ≤ s.marks.through))

record Helping (much : ℕ) (known : Known) (s : SoFar) (t : Tally) : Type 0 where
  pub growing : Growing known s t
  pub brought : Brought much known s

known_low : (known : Known) (c : Change) → is_known known c ≡ true → c.stamp ≤ suc known.through
known_low known c h =
    ⊎_elim
    (λ (g : leb c.stamp known.through ≡ true). let u = leb-true c.stamp known.through g in omega (arith, u))
    (λ (g : (eqb c.stamp (suc known.through) && is_seen known.seen c) ≡ true). let u = eqb-true c.stamp (suc known.through) (and_parts (eqb c.stamp (suc known.through)) (is_seen known.seen c) g).0 in omega (arith, u))
    (or_cases (leb c.stamp known.through) (eqb c.stamp (suc known.through) && is_seen known.seen c) h)

module _ (much : ℕ) (known : Known) (s : SoFar) where
  data_brings : (item : DataRecord) → ((c : Change) × Contains (changes_told item) c) → known.through ≤ s.marks.through → Brought much known s → Brought much known (with_record known s (Record.Change item))
  data_brings item some low B = by (is_known known some.0) refl
    where
      by : (b : Bool) → is_known known some.0 ≡ b → Brought much known (with_record known s (Record.Change item))
      by false h = inl (keep_some known s.changes (changes_told item) some.0 some.1 h)
      by true h = old B
        where
          early : item.stamp ≤ suc known.through
          early = let u = known_low known some.0 h in let v = its_stamp item some.0 some.1 in omega (arith, u, v)

          old : Brought much known s → Brought much known (with_record known s (Record.Change item))
          old (inl a) = inl (a.0, keep_kept known s.changes (changes_told item) a.0 a.1)
          old (inr (inl a)) = let u = early in inr (inl (omega (arith, a, u)))
          old (inr (inr a)) = inr (inr (omega (arith, a)))

  brings : (item : Record) → Helps much known (Step.Record item) → known.through ≤ s.marks.through → Brought much known s → Brought much known (with_record known s item)
  brings (Record.Change item) m low B = data_brings item m low B
  brings (Record.Heartbeat at) m low B = inr (inr (omega (arith, m)))
  brings (Record.Children item) m low B = B

both : (much : ℕ) (known : Known) (s : SoFar) → Grown known s → Brought much known s → SomeIn s.changes ⊎ (known.through + much ≤ s.marks.through)
both much known s (inl a) B = inl a
both much known s (inr a) (inl b) = inl b
both much known s (inr a) (inr (inl b)) = absurd (omega (arith, a, b))
both much known s (inr a) (inr (inr b)) = inr b

closed_brings : (much : ℕ) (args : ReadArgs) (known : Known) (s : SoFar) (t : Tally) (closing : Closing) → Helps much known (Step.Closing closing) → Helping much known s t → end_breach args known s closing ≡ None → BringsOn much known (closed_by args s closing)
closed_brings much args known s t Closing.Finished m H w = inl refl
closed_brings much args known s t (Closing.CaughtUp at) m H w = absurd m
closed_brings much args known s t Closing.Cut m H w = inr (both much known s (cut_grows args known s t H.growing w) H.brought)

module _ (much : ℕ) (args : ReadArgs) (known : Known) (limits : Limits) where
  brings_lasts : Lasts args known limits (Helps much known) (Helping much known) (BringsOn much known)
  brings_lasts = record {
    adds_some = λ s t item m H w a. record { growing = grows_on known s t item H.growing a; brought = brings much known s item m H.growing.low H.brought };
    adds_none = λ s t item m H w a n. record { growing = idles_on known s t item H.growing n; brought = brings much known s item m H.growing.low H.brought };
    fills = λ s t item m H w a f. inr (both much known (with_record known s item) (full_grows known s limits t item H.growing a f) (brings much known s item m H.growing.low H.brought));
    closes = λ s t closing m H w. closed_brings much args known s t closing m H w;
  }

  pub brings_on : (steps : List Step) → ((x : Step) → Contains steps x → Helps much known x) → IfGives (BringsOn much known) (outcome_of args known limits steps)
  brings_on steps M = walks args known limits (Helps much known) (Helping much known) (BringsOn much known) brings_lasts steps M (record { growing = growing_none args known limits; brought = inr (inl refl) })

-- ---- over an honest READ

pub honest_brings : HonestBringsOn
honest_brings f known limits read u H o P past start = brings_on (pace read.args) read.args known limits read.steps (by read.args.token refl (subst (λ z. HasHonestSteps f read z) refl H.steps))
  where
    no : (refusal : ReadRefusal) → IsRefusedBy f read.args read.moment refusal → ⊥
    no = subst (λ z. IsHonestAnswer f read.args read.moment z) o H.answer

    low : known.through ≤ read.args.start
    low = ⊎_elim (λ (a : read.args.start ≡ known.through). omega (arith, a)) (λ (a : read.args.start ≡ suc known.through). omega (arith, a)) start

    opens : (done : List Step) (x : Step) → MayGiveFirst f read.args.start done x → Helps (pace read.args) known x
    opens done (Step.Record (Record.Change item)) M = absurd M
    opens done (Step.Record (Record.Heartbeat at)) M = absurd M
    opens done (Step.Record (Record.Children item)) M = tt
    opens done (Step.Closing Closing.Finished) M = tt
    opens done (Step.Closing (Closing.CaughtUp at)) M = absurd M
    opens done (Step.Closing Closing.Cut) M = tt

    helps : (p : Part) (done : List Step) (x : Step) → Contains read.steps x → MayGive f p read.args.start (end_of read.args) read.moment done x → Helps (pace read.args) known x
    helps p done (Step.Record (Record.Change item)) i M = some_change item M.some
    helps p done (Step.Record (Record.Heartbeat at)) i M = let a = P at i in omega (arith, a, low)
    helps p done (Step.Record (Record.Children item)) i M = tt
    helps p done (Step.Closing Closing.Finished) i M = tt
    helps p done (Step.Closing (Closing.CaughtUp at)) i M = absurd (omega (arith, M.moment.0, M.moment.1, past))
    helps p done (Step.Closing Closing.Cut) i M = tt

    by : (token : Option (List ℕ)) → read.args.token ≡ token → HasHonestSteps f read token → (x : Step) → Contains read.steps x → Helps (pace read.args) known x
    by None s S x i = opens _ x (place (MayFollowFirst f read.args.start) [] read.steps x S i).may.1
    by (Some token) s S x i =
        let p = there f read.args read.moment no token s in
        helps p.0 _ x i (place (MayFollow f p.0 read.args.start (end_of read.args) read.moment) [] read.steps x (S p.0 p.1 p.2) i).may.1
