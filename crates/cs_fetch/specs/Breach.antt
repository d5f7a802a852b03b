-- What no server may answer that tells the truth, tried step by step, and within one step by number. This project's own.
use Rattle.std.specs.Prelude.{ℕ, Bool, true, false, ◌||◌, not, cond, List, [], ◌∷◌, Option, Some, None, ◌==◌, nat_lt, nat_le, is_some, length, map}
use Rattle.std.specs.List.{list_any}
use Rattle.std.specs.Option.{option_or, option_map}
use Rattle.std.specs.Ordering.{nat_cmp, is_eq}
use Rattle.std.specs.Cmp.Lexicographic.{slice_cmp}
use Rattle.cs_records.specs.declared.records.Child.{Child}
use Rattle.cs_records.specs.declared.records.ChildRecord.{ChildRecord}
use Rattle.cs_records.specs.declared.records.DataRecord.{DataRecord}
use Rattle.cs_records.specs.declared.records.Record.{Record}
use Rattle.cs_records.specs.Told.{record_fault}
use Rattle.cs_link.specs.declared.batch.Known.{Known}
use Rattle.cs_link.specs.declared.batch.NewChild.{NewChild}
use Rattle.cs_link.specs.declared.breach.Breach.{Breach}
use Rattle.cs_link.specs.declared.reading.Closing.{Closing}
use Rattle.cs_link.specs.declared.reading.ReadArgs.{ReadArgs}
use Rattle.cs_fetch.specs.declared.so_far.Marks.{Marks}
use Rattle.cs_fetch.specs.declared.so_far.SoFar.{SoFar}
use Rattle.cs_link.specs.Causes.{one_more}
use Rattle.cs_link.specs.Reading.{end_of, new_child}
use Rattle.cs_fetch.specs.Keeping.{parents_of, keep_children}
use Rattle.cs_fetch.specs.SoFar.{count_at}

-- a breach, or a value that is offended, where the test holds
abbrev pub only_if : {A : Type 0} → Bool → A → Option A
only_if test x = cond test (Some x) None

-- a value, where there is one, that the test finds offended
abbrev pub offended : (ℕ → Bool) → Option ℕ → Option ℕ
offended test None = None
offended test (Some value) = only_if (test value) value

-- ---- data records

-- 1: a stamp is below the last one
abbrev pub fell : Option ℕ → ℕ → Option Breach
fell last stamp = option_map (λ a. Breach.StampFell a stamp) (offended (λ a. nat_lt stamp a) last)

-- the start, where a moment is below it, or else the end, where it is above it
abbrev pub outside_of : ReadArgs → ℕ → Option ℕ
outside_of args at = option_or (only_if (nat_lt at args.start) args.start) (only_if (nat_lt (end_of args) at) (end_of args))

-- 2: it is below the start or above the end
abbrev pub outside : ReadArgs → ℕ → Option Breach
outside args stamp = option_map (Breach.OutOfWindow stamp) (outside_of args stamp)

-- 4: it is not above a heartbeat
abbrev pub below_beat : Option ℕ → ℕ → Option Breach
below_beat beat stamp = option_map (Breach.BelowHeartbeat stamp) (offended (nat_le stamp) beat)

-- 5: it stands behind a child record
abbrev pub after_children : Option ℕ → ℕ → Option Breach
after_children listed at = option_map (Breach.AfterChildren at) listed

-- 9: the READ is one without a part
abbrev pub initial : Option (List ℕ) → ℕ → Option Breach
initial None count = Some (Breach.InitialWrong count count)
initial (Some token) count = None

-- 13: too many have the stamp
abbrev pub crowded : Marks → ℕ → Option Breach
crowded marks stamp = only_if (nat_lt 1024 (one_more (count_at marks stamp))) (Breach.TooManyAtStamp stamp 1024)

-- 15: the record tells no changes
abbrev pub unsound : ℕ → DataRecord → Option Breach
unsound number item = option_map (Breach.BadRecord number) (record_fault item)

-- all but the last
abbrev pub stamp_breach : ReadArgs → Marks → ℕ → Option Breach
stamp_breach args marks stamp =
    option_or (fell marks.last stamp) (option_or (outside args stamp) (option_or (below_beat marks.beat stamp) (option_or (after_children marks.listed stamp) (option_or (initial args.token (one_more marks.records)) (crowded marks stamp)))))

abbrev pub data_breach : ReadArgs → Marks → DataRecord → Option Breach
data_breach args marks item = option_or (stamp_breach args marks item.stamp) (unsound (one_more marks.records) item)

-- ---- heartbeats

-- the first value that a heartbeat offends: it is below the start, above the end, not above the last heartbeat, or below the last stamp
abbrev pub beat_offends : ReadArgs → Marks → ℕ → Option ℕ
beat_offends args marks at = option_or (outside_of args at) (option_or (offended (nat_le at) marks.beat) (offended (nat_lt at) marks.last))

-- 3, 5 and 9
abbrev pub beat_breach : ReadArgs → Marks → ℕ → Option Breach
beat_breach args marks at =
    option_or (option_map (Breach.HeartbeatWrong at) (beat_offends args marks at)) (option_or (after_children marks.listed at) (initial args.token (one_more marks.records)))

-- ---- child records

-- the first value that a start of a part's child record offends: it is not above the start, the last stamp or the last heartbeat, or above the end, or not the earlier one
abbrev pub part_start_offends : ReadArgs → Marks → ℕ → Option ℕ
part_start_offends args marks start =
    option_or (only_if (nat_le start args.start) args.start) (option_or (offended (nat_le start) marks.last) (option_or (offended (nat_le start) marks.beat)
    (option_or (only_if (nat_lt (end_of args) start) (end_of args)) (offended (λ earlier. not (earlier == start)) marks.listed))))

-- without a part: it is not the start
abbrev pub start_offends : ReadArgs → Marks → Option (List ℕ) → ℕ → Option ℕ
start_offends args marks None start = only_if (not (start == args.start)) args.start
start_offends args marks (Some token) start = part_start_offends args marks start

-- whether two lists of tokens are one
abbrev pub are_same : List (List ℕ) → List (List ℕ) → Bool
are_same a b = is_eq (slice_cmp (slice_cmp nat_cmp) a b)

-- whether parents differ from the earlier ones, where there are any
abbrev pub differ : Option (List (List ℕ)) → List (List ℕ) → Bool
differ None parents = false
differ (Some earlier) parents = not (are_same earlier parents)

-- the first child whose parents are not those that it was listed with earlier
abbrev pub first_differing : List NewChild → ℕ → List Child → Option (List ℕ)
first_differing kept start [] = None
first_differing kept start (c ∷ cs) = cond (differ (parents_of c.token kept) c.parents) (Some c.token) (first_differing (keep_children kept (new_child start c ∷ [])) start cs)

-- whether there is a token
abbrev pub has_some : List (List ℕ) → Bool
has_some [] = false
has_some (token ∷ tokens) = true

-- the first child that has parents
abbrev pub first_with_parents : List Child → Option (List ℕ)
first_with_parents [] = None
first_with_parents (c ∷ cs) = cond (has_some c.parents) (Some c.token) (first_with_parents cs)

-- whether a token is among these
abbrev pub is_token_among : List (List ℕ) → List ℕ → Bool
is_token_among tokens token = list_any (λ t. is_eq (slice_cmp nat_cmp token t)) tokens

-- the first child whose parents have not the token
abbrev pub first_without : List ℕ → List Child → Option (List ℕ)
first_without token [] = None
first_without token (c ∷ cs) = cond (is_token_among c.parents token) (first_without token cs) (Some c.token)

-- 6
abbrev pub start_breach : ReadArgs → Marks → ℕ → Option Breach
start_breach args marks start = option_map (Breach.ChildStart start) (start_offends args marks args.token start)

-- 7 and 8: a child differs, of which this is the first, or its parents have not the part; without a part, a child has parents
abbrev pub children_breach : Option (List ℕ) → Option (List ℕ) → List Child → Option Breach
children_breach None differing cs = option_map (λ token. Breach.ChildDiffers token token) (first_with_parents cs)
children_breach (Some part) differing cs = option_or (option_map (λ token. Breach.ChildDiffers token token) differing) (option_map (λ token. Breach.ParentMissing token part) (first_without part cs))

-- 17: there are too many children
abbrev pub too_many : List NewChild → Option Breach
too_many children = only_if (nat_lt 65536 (length children)) (Breach.TooManyChildren (length children) 65536)

-- the children so far, and those of the record whose tokens are new
abbrev pub with_children : List NewChild → ChildRecord → List NewChild
with_children kept item = keep_children kept (map (new_child item.start) item.children)

abbrev pub list_breach : ReadArgs → SoFar → ChildRecord → Option Breach
list_breach args s item =
    option_or (start_breach args s.marks item.start) (option_or (children_breach args.token (first_differing s.children item.start item.children) item.children) (too_many (with_children s.children item)))

-- ---- ends

-- the first value that a moment offends: it is not below the end, or below the known part, the last stamp or the last heartbeat, or a child record stands before it
abbrev pub moment_offends : ReadArgs → Known → Marks → ℕ → Option ℕ
moment_offends args known marks at =
    option_or (only_if (nat_le (end_of args) at) (end_of args)) (option_or (only_if (nat_lt at known.through) known.through) (option_or (offended (nat_lt at) marks.last) (option_or (offended (nat_lt at) marks.beat) marks.listed)))

-- 10 and 11, of a part
abbrev pub part_end_breach : ReadArgs → Known → Marks → Closing → Option Breach
part_end_breach args known marks Closing.Finished = None
part_end_breach args known marks (Closing.CaughtUp at) = option_map (Breach.CaughtUpWrong at) (moment_offends args known marks at)
part_end_breach args known marks Closing.Cut = only_if (nat_lt marks.records 8192 || is_some marks.listed) (Breach.CutEarly marks.records 8192)

-- whether no child was listed
abbrev pub has_none : List NewChild → Bool
has_none [] = true
has_none (x ∷ xs) = false

-- 9, without a part: no child was listed, or the end is another one
abbrev pub first_end_breach : SoFar → Closing → Option Breach
first_end_breach s Closing.Finished = only_if (has_none s.children) (Breach.InitialWrong s.marks.records s.marks.records)
first_end_breach s (Closing.CaughtUp at) = Some (Breach.InitialWrong s.marks.records s.marks.records)
first_end_breach s Closing.Cut = Some (Breach.InitialWrong s.marks.records s.marks.records)

abbrev pub end_breach_of : ReadArgs → Known → SoFar → Option (List ℕ) → Closing → Option Breach
end_breach_of args known s None closing = first_end_breach s closing
end_breach_of args known s (Some token) closing = part_end_breach args known s.marks closing

abbrev pub end_breach : ReadArgs → Known → SoFar → Closing → Option Breach
end_breach args known s closing = end_breach_of args known s args.token closing

-- ---- all

abbrev pub record_breach : ReadArgs → SoFar → Record → Option Breach
record_breach args s (Record.Change item) = data_breach args s.marks item
record_breach args s (Record.Heartbeat at) = beat_breach args s.marks at
record_breach args s (Record.Children item) = list_breach args s item
