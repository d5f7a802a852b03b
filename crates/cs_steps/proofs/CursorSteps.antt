-- What is left of an answer after one of its steps.
use Rattle.std.proofs.Common.{◌≡◌, ◌≢◌, ℕ, zero, suc, ◌+◌, ◌-◌, ◌<◌, ◌≤◌, Bool, true, false, cond, nat_le, List, [], ◌∷◌, ◌++◌, length, take, drop, None, Some, refl, sym, ap, ◌∙◌, subst, arith}
use Rattle.std.proofs.lemmas.Bool.{lt-leb}
use Rattle.std.proofs.Math.Seq.{drop-cons}
use Rattle.cs_records.specs.declared.records.Child.{Child}
use Rattle.cs_records.specs.declared.records.DataRecord.{DataRecord}
use Rattle.cs_records.specs.declared.records.Record.{Record}
use Rattle.cs_link.specs.declared.reading.Closing.{Closing}
use Rattle.cs_link.specs.declared.reading.Step.{Step}
use Rattle.cs_steps.specs.declared.cursor.Cursor.{Cursor}
use Rattle.cs_steps.specs.declared.cursor.StepPlace.{StepPlace}
use Rattle.cs_steps.specs.Steps.{paced, listed_from, child_groups}
use Rattle.cs_steps.specs.Cursor.{until_cut, Source, records_left, rest_left, steps_left, IsAt, IsCursor, HasMore, HasNoMore, passed, beaten, Gives}

-- nothing is late behind itself
never_late : (gap t : ℕ) → 1 ≤ gap → nat_le (t + gap) t ≡ false
never_late gap t h = lt-leb (t + gap) t (omega arith)

idle : (gap t : ℕ) → 1 ≤ gap → paced gap t t [] ≡ []
idle gap t h = ap (λ b. cond b (Step.Record (Record.Heartbeat t) ∷ []) []) (never_late gap t h)

take_none : {A : Type 0} (n : ℕ) (xs : List A) → n ≡ 0 → take n xs ≡ []
take_none zero xs h = refl
take_none (suc n) xs h = absurd (omega arith)

none_left : (s : Source) (c : Cursor) → c.end ≤ c.next → records_left s c ≡ []
none_left s c h = take_none (c.end - c.next) (drop c.next s.records) (omega arith)

cut_off_at : (xs : List Step) (rest : List Step) (left : ℕ) → left ≡ 0 → xs ≢ [] → until_cut left xs rest ≡ Step.Closing Closing.Cut ∷ []
cut_off_at [] rest left h some = absurd (some refl)
cut_off_at (x ∷ xs) rest zero h some = refl
cut_off_at (x ∷ xs) rest (suc n) h some = absurd (omega arith)

-- a cursor at its end
abbrev pub ended : Cursor → Cursor
ended c = record { next = c.end; end = c.end; last = c.top; top = c.top; gap = c.gap; left = c.left; list = c.list; lists = c.lists; closing = None }

none_more : (s : Source) (c : Cursor) → 1 ≤ c.gap → HasNoMore s (ended c)
none_more s c h = ap (paced c.gap c.top c.top) (none_left s (ended c) (omega arith)) ∙ idle c.gap c.top h

nothing_left : (s : Source) (c : Cursor) → 1 ≤ c.gap → steps_left s (ended c) ≡ []
nothing_left s c h = ap (λ l. until_cut c.left l []) (none_more s c h)

-- a cursor before its end
never_ended : (s : Source) (c after : Cursor) → c.closing ≢ None → after.closing ≡ c.closing → after.closing ≡ None → HasNoMore s after
never_ended s c after goes same e = absurd (goes (sym same ∙ e))

pub gives_cut : (s : Source) (c : Cursor) → IsCursor s c → c.left ≡ 0 → HasMore s c → Gives s c (StepPlace.Closing Closing.Cut) (ended c)
gives_cut s c h zero_left more = record {
  step = Step.Closing Closing.Cut;
  is = refl;
  left = cut_off_at (paced c.gap c.top c.last (records_left s c)) (rest_left s c.list c.closing) c.left zero_left more ∙ ap (λ l. Step.Closing Closing.Cut ∷ l) (sym (nothing_left s c h.gap));
  cursor = record { within = (omega arith, h.within.1); lists = h.lists; listed = h.listed; gap = h.gap; ended = λ e. none_more s c h.gap };
}

-- ---- data records and heartbeats

pub some_at : {A : Type 0} (xs : List A) (k : ℕ) → k < length xs → (x : A) × IsAt xs k x
some_at [] k lt = absurd (omega arith)
some_at (x ∷ xs) zero lt = (x, (lt, refl))
some_at (x ∷ xs) (suc k) lt = let r = some_at xs k (omega arith) in (r.0, (lt, r.1.1))

take_more : {A : Type 0} (n m : ℕ) (x : A) (xs : List A) → n ≡ suc m → take n (x ∷ xs) ≡ x ∷ take m xs
take_more n m x xs e = ap (λ k. take k (x ∷ xs)) e

one_left : (s : Source) (c : Cursor) (d : DataRecord) (stamp : ℕ) → c.next < c.end → IsAt s.records c.next d → records_left s c ≡ d ∷ records_left s (passed c stamp)
one_left s c d stamp lt i =
    ap (take (c.end - c.next)) (drop-cons s.records c.next d i.0 ∙ ap (λ x. x ∷ drop (suc c.next) s.records) i.1)
    ∙ take_more (c.end - c.next) (c.end - suc c.next) d (drop (suc c.next) s.records) (omega arith)

pub more_of : (gap top last : ℕ) (d : DataRecord) (ds : List DataRecord) → paced gap top last (d ∷ ds) ≢ []
more_of gap top last d ds = by (nat_le (last + gap) d.stamp)
  where
    by : (b : Bool) → cond b (Step.Record (Record.Heartbeat (d.stamp - 1)) ∷ []) [] ++ Step.Record (Record.Change d) ∷ paced gap top d.stamp ds ≢ []
    by true e = cc
    by false e = cc

pub has_more : (s : Source) (c : Cursor) (d : DataRecord) → c.next < c.end → IsAt s.records c.next d → HasMore s c
has_more s c d lt i = subst (λ l. paced c.gap c.top c.last l ≢ []) (sym (one_left s c d d.stamp lt i)) (more_of c.gap c.top c.last d (records_left s (passed c d.stamp)))

-- one step of those that are left before a cut
one_of : (left : ℕ) (x : Step) (xs rest : List Step) → 0 < left → until_cut left (x ∷ xs) rest ≡ x ∷ until_cut (left - 1) xs rest
one_of zero x xs rest h = absurd (omega arith)
one_of (suc n) x xs rest h = let e : n ≡ suc n - 1 = omega arith in ap (λ k. x ∷ until_cut k xs rest) e

on_time : (gap top last : ℕ) (d : DataRecord) (ds : List DataRecord) → nat_le (last + gap) d.stamp ≡ false → paced gap top last (d ∷ ds) ≡ Step.Record (Record.Change d) ∷ paced gap top d.stamp ds
on_time gap top last d ds h = ap (λ b. cond b (Step.Record (Record.Heartbeat (d.stamp - 1)) ∷ []) [] ++ Step.Record (Record.Change d) ∷ paced gap top d.stamp ds) h

late : (gap top last : ℕ) (d : DataRecord) (ds : List DataRecord) → 1 ≤ gap → nat_le (last + gap) d.stamp ≡ true → paced gap top last (d ∷ ds) ≡ Step.Record (Record.Heartbeat (d.stamp - 1)) ∷ paced gap top d.stamp (d ∷ ds)
late gap top last d ds some h =
    ap (λ b. cond b (Step.Record (Record.Heartbeat (d.stamp - 1)) ∷ []) [] ++ Step.Record (Record.Change d) ∷ paced gap top d.stamp ds) h
    ∙ ap (λ l. Step.Record (Record.Heartbeat (d.stamp - 1)) ∷ l) (sym (on_time gap top d.stamp d ds (never_late gap d.stamp some)))

pub gives_record : (s : Source) (c : Cursor) (d : DataRecord) (stamp : ℕ) → c.closing ≢ None → IsCursor s c → c.next < c.end → 0 < c.left → IsAt s.records c.next d → stamp ≡ d.stamp → nat_le (c.last + c.gap) stamp ≡ false → Gives s c (StepPlace.Record c.next) (passed c stamp)
gives_record s c d stamp goes h lt some i e early = record {
  step = Step.Record (Record.Change d);
  is = (d, i, refl);
  left =
      ap (λ l. until_cut c.left l (rest_left s c.list c.closing)) (ap (paced c.gap c.top c.last) (one_left s c d stamp lt i) ∙ on_time c.gap c.top c.last d (records_left s (passed c stamp)) (subst (λ t. nat_le (c.last + c.gap) t ≡ false) e early))
      ∙ one_of c.left (Step.Record (Record.Change d)) (paced c.gap c.top d.stamp (records_left s (passed c stamp))) (rest_left s c.list c.closing) some
      ∙ ap (λ t. Step.Record (Record.Change d) ∷ until_cut (c.left - 1) (paced c.gap c.top t (records_left s (passed c stamp))) (rest_left s c.list c.closing)) (sym e);
  cursor = record { within = (omega arith, h.within.1); lists = h.lists; listed = h.listed; gap = h.gap; ended = never_ended s c (passed c stamp) goes refl };
}

pub gives_beat : (s : Source) (c : Cursor) (d : DataRecord) (stamp at : ℕ) → c.closing ≢ None → IsCursor s c → c.next < c.end → 0 < c.left → IsAt s.records c.next d → stamp ≡ d.stamp → at ≡ stamp - 1 → nat_le (c.last + c.gap) stamp ≡ true → Gives s c (StepPlace.Heartbeat at) (beaten c stamp)
gives_beat s c d stamp at goes h lt some i e below due = record {
  step = Step.Record (Record.Heartbeat at);
  is = refl;
  left =
      ap (λ l. until_cut c.left l (rest_left s c.list c.closing)) (ap (paced c.gap c.top c.last) (one_left s c d stamp lt i) ∙ late c.gap c.top c.last d (records_left s (passed c stamp)) h.gap (subst (λ t. nat_le (c.last + c.gap) t ≡ true) e due))
      ∙ one_of c.left (Step.Record (Record.Heartbeat (d.stamp - 1))) (paced c.gap c.top d.stamp (d ∷ records_left s (passed c stamp))) (rest_left s c.list c.closing) some
      ∙ (λ j. Step.Record (Record.Heartbeat (sym same j)) ∷ until_cut (c.left - 1) (paced c.gap c.top (sym e j) (sym (one_left s c d stamp lt i) j)) (rest_left s c.list c.closing));
  cursor = record { within = h.within; lists = h.lists; listed = h.listed; gap = h.gap; ended = never_ended s c (beaten c stamp) goes refl };
}
  where
    same : at ≡ d.stamp - 1
    same = below ∙ ap (λ t. t - 1) e

at_the_end : (s : Source) (c : Cursor) → c.end ≤ c.next → (b : Bool) → nat_le (c.last + c.gap) c.top ≡ b → paced c.gap c.top c.last (records_left s c) ≡ cond b (Step.Record (Record.Heartbeat c.top) ∷ []) []
at_the_end s c past b h = ap (paced c.gap c.top c.last) (none_left s c past) ∙ ap (λ x. cond x (Step.Record (Record.Heartbeat c.top) ∷ []) []) h

pub has_last : (s : Source) (c : Cursor) → c.end ≤ c.next → nat_le (c.last + c.gap) c.top ≡ true → HasMore s c
has_last s c past h e = nothing (Step.Record (Record.Heartbeat c.top)) (sym (at_the_end s c past true h) ∙ e)
  where
    nothing : (x : Step) → x ∷ [] ≢ []
    nothing x e = cc

pub has_none : (s : Source) (c : Cursor) → c.end ≤ c.next → nat_le (c.last + c.gap) c.top ≡ false → HasNoMore s c
has_none s c past h = at_the_end s c past false h

pub gives_last : (s : Source) (c : Cursor) → c.closing ≢ None → IsCursor s c → c.end ≤ c.next → 0 < c.left → nat_le (c.last + c.gap) c.top ≡ true → Gives s c (StepPlace.Heartbeat c.top) (beaten c c.top)
gives_last s c goes h past some due = record {
  step = Step.Record (Record.Heartbeat c.top);
  is = refl;
  left =
      ap (λ l. until_cut c.left l (rest_left s c.list c.closing)) (at_the_end s c past true due)
      ∙ one_of c.left (Step.Record (Record.Heartbeat c.top)) [] (rest_left s c.list c.closing) some
      ∙ ap (λ l. Step.Record (Record.Heartbeat c.top) ∷ until_cut (c.left - 1) l (rest_left s c.list c.closing)) (sym (ap (paced c.gap c.top c.top) (none_left s (beaten c c.top) past) ∙ idle c.gap c.top h.gap));
  cursor = record { within = h.within; lists = h.lists; listed = h.listed; gap = h.gap; ended = never_ended s c (beaten c c.top) goes refl };
}

-- ---- children and the end

only_rest : (s : Source) (c : Cursor) → HasNoMore s c → steps_left s c ≡ rest_left s c.list c.closing
only_rest s c h = ap (λ l. until_cut c.left l (rest_left s c.list c.closing)) h

pub gives_none : (s : Source) (c : Cursor) → IsCursor s c → c.closing ≡ None → steps_left s c ≡ []
gives_none s c is e = let h = is.ended e in only_rest s c h ∙ ap (rest_left s c.list) e

-- a cursor behind one more child record, and one behind the end
abbrev pub listing : Cursor → Cursor
listing c = record { next = c.next; end = c.end; last = c.last; top = c.top; gap = c.gap; left = c.left; list = c.list + 1; lists = c.lists; closing = c.closing }

abbrev pub closed : Cursor → Cursor
closed c = record { next = c.next; end = c.end; last = c.last; top = c.top; gap = c.gap; left = c.left; list = c.list; lists = c.lists; closing = None }

pub gives_list : (s : Source) (c : Cursor) (closing : Closing) → IsCursor s c → HasNoMore s c → c.closing ≡ Some closing → c.list < c.lists → Gives s c (StepPlace.Children c.list) (listing c)
gives_list s c closing h none e lt = record {
  step = Step.Record (Record.Children (record { start = s.start; sequence = c.list; children = g.0 }));
  is = (g.0, g.1, refl);
  left =
      only_rest s c none
      ∙ ap (rest_left s c.list) e
      ∙ ap (λ l. listed_from s.start c.list l ++ Step.Closing closing ∷ []) (drop-cons (child_groups s.children) c.list g.0 g.1.0 ∙ (λ i. g.1.1 i ∷ drop (more i) (child_groups s.children)))
      ∙ ap (λ l. Step.Record (Record.Children (record { start = s.start; sequence = c.list; children = g.0 })) ∷ l) (sym (only_rest s (listing c) none ∙ ap (rest_left s (c.list + 1)) e));
  cursor = record { within = h.within; lists = h.lists; listed = omega arith; gap = h.gap; ended = λ n. absurd (apart n) };
}
  where
    apart : c.closing ≡ None → ⊥
    apart n = nothing (sym e ∙ n)
      where
        nothing : Some closing ≡ None → ⊥
        nothing x = cc

    more : suc c.list ≡ c.list + 1
    more = omega arith

    g : (x : List Child) × IsAt (child_groups s.children) c.list x
    g = some_at (child_groups s.children) c.list (omega (arith, h.lists))

drop_all : {A : Type 0} (n : ℕ) (xs : List A) → length xs ≤ n → drop n xs ≡ []
drop_all zero [] h = refl
drop_all zero (x ∷ xs) h = absurd (omega arith)
drop_all (suc n) [] h = refl
drop_all (suc n) (x ∷ xs) h = drop_all n xs (omega arith)

pub gives_end : (s : Source) (c : Cursor) (closing : Closing) → IsCursor s c → HasNoMore s c → c.closing ≡ Some closing → c.lists ≤ c.list → Gives s c (StepPlace.Closing closing) (closed c)
gives_end s c closing h none e past = record {
  step = Step.Closing closing;
  is = refl;
  left =
      only_rest s c none
      ∙ ap (rest_left s c.list) e
      ∙ ap (λ l. listed_from s.start c.list l ++ Step.Closing closing ∷ []) (drop_all c.list (child_groups s.children) (omega (arith, h.lists)))
      ∙ ap (λ l. Step.Closing closing ∷ l) (sym (only_rest s (closed c) none));
  cursor = record { within = h.within; lists = h.lists; listed = h.listed; gap = h.gap; ended = λ n. none };
}
