-- What a walk rests on, and what stands at a place of a history.
use Rattle.std.proofs.Common.{◌≡◌, ℕ, zero, suc, ◌<◌, ◌≤◌, List, [], ◌∷◌, length, get_or, slice_get, Some, Result, Ok, Err, IfOk, refl, arith, Contains}
use Rattle.cs_place.specs.declared.place.Place.{Place}
use Rattle.cs_partitions.specs.Layout.{StreamParts, IsLayout}
use Rattle.cs_partitions.specs.Views.{IsHolder}
use Rattle.cs_txn.specs.declared.txn.Modification.{Modification}
use Rattle.cs_txn.specs.History.{IsHistory}
use Rattle.cs_index.specs.Walk.{HasRules}

-- what the laws of the crates below say
abbrev pub HoldersAreOne : Type 0
HoldersAreOne = (l : StreamParts) (place : Place) (moment index other : ℕ) → IsLayout l → l.created ≤ moment → IsHolder l.parts place moment index → IsHolder l.parts place moment other → index ≡ other

abbrev pub TransactionsHaveOneStamp : Type 0
TransactionsHaveOneStamp = (ms : List Modification) → IsHistory ms → (a b : Modification) → Contains ms a → Contains ms b → a.tx ≡ b.tx → (a.stamp ≡ b.stamp) × (a.tag ≡ b.tag)

pub rules_of : HoldersAreOne → TransactionsHaveOneStamp → (l : StreamParts) (created : ℕ) (ms : List Modification) → IsLayout l → l.created ≤ created → IsHistory ms → HasRules created l.parts ms
rules_of one stamps l created ms L le H = record {
  apart = record {
    one = λ place moment i j at h k. one l place moment i j L (omega (arith, le, at)) h k;
    ranges = λ part i. L.sound.ranges part i;
  };
  stamps = λ a b i j e. (stamps ms H a b i j e).0;
}

pub got : (ms : List Modification) (k : ℕ) (d : Modification) → k < length ms → slice_get ms k ≡ Some (get_or ms k d)
got [] k d l = absurd (omega arith)
got (m ∷ ms) zero d l = refl
got (m ∷ ms) (suc k) d l = got ms k d (omega arith)

pub if_ok : {A E : Type 0} {P Q : A → Type 0} (r : Result A E) → ((x : A) → P x → Q x) → IfOk r P → IfOk r Q
if_ok (Ok x) f h = f x h
if_ok (Err e) f h = h
