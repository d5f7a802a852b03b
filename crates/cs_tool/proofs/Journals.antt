-- What a journal that earlier runs left holds, and what a crash leaves of it.
use Rattle.std.proofs.Common.{◌≡◌, ◌⊎◌, inl, inr, ⊎_elim, List, [], ◌∷◌, ◌++◌, map, ℕ, Option, Some, None, refl, sym, ap, ◌∙◌, subst, Contains}
use Rattle.std.specs.Prelude.{IfSome}
use Rattle.cs_types.specs.declared.names.Window.{Window}
use Rattle.cs_types.specs.Members.{in_nil, in_head, in_tail}
use Rattle.cs_device.specs.Crash.{Crash, CrashesLeave, crashes_both, crashes_weaker}
use Rattle.cs_journal.specs.Crashes.{HoldsAnOldImage}
use Rattle.cs_link.specs.declared.feed.Feed.{Feed}
use Rattle.cs_schedule.specs.declared.entry.Entry.{Entry}
use Rattle.cs_schedule.specs.declared.entry.Entry.TheVariants.{Begin}
use Rattle.cs_schedule.specs.Consistent.{BeginIsConsistent}
use Rattle.cs_schedule.specs.Spelling.{payload, IsInFormat, PayloadsDiffer}
use Rattle.cs_script.specs.Database.{Database}
use Rattle.cs_server.specs.Laws.{IsFeedOf}
use Rattle.cs_book.specs.Book.{StillTells}
use Rattle.cs_book.specs.Entries.{HoldsEntries, HoldsSuch}
use Rattle.cs_book.specs.Opening.{HoldsOldOrFirst, IsFrom}
use Rattle.cs_follow.specs.Own.{AreFollowing}
use Rattle.cs_follow.specs.Turn.{Extends}
use Rattle.cs_tool.specs.Following.{FollowsOn}
use Rattle.cs_tool.specs.Journal.{Files, HoldsFollowing, IsLeftBehind, GoesOnFrom}

-- ---- the bytes hold one list of entries

same_entries : PayloadsDiffer → (xs ys : List Entry) → ((e : Entry) → Contains xs e → IsInFormat e) → ((e : Entry) → Contains ys e → IsInFormat e) → map payload xs ≡ map payload ys → xs ≡ ys
same_entries differ [] [] p q e = refl
same_entries differ [] (y ∷ ys) p q e = absurd cc
same_entries differ (x ∷ xs) [] p q e = absurd cc
same_entries differ (x ∷ xs) (y ∷ ys) p q e =
    let both : (payload x ≡ payload y) × (map payload xs ≡ map payload ys) = (cc, cc) in
    let first : x ≡ y = differ x y (p x (in_head x xs)) (q y (in_head y ys)) both.0 in
    let rest : xs ≡ ys = same_entries differ xs ys (λ e i. p e (in_tail x e xs i)) (λ e i. q e (in_tail y e ys i)) both.1 in
    cc

pub entries_once : PayloadsDiffer → (bytes : List ℕ) (xs ys : List Entry) → HoldsEntries bytes xs → HoldsEntries bytes ys → xs ≡ ys
entries_once differ bytes xs ys X Y =
    let both : Some (map payload xs) ≡ Some (map payload ys) = sym X.payloads ∙ Y.payloads in
    same_entries differ xs ys X.in_format Y.in_format cc

-- ---- the first entry follows each feed

pub first_follows : BeginIsConsistent → (f : Feed) (w : Window) → AreFollowing f w (Begin w ∷ [])
first_follows begin f w = record { consistent = (begin f w).1; own = λ r i. absurd (in_nil r i) }

-- ---- an opening over what earlier runs left

ends_there : (es : List Entry) → es ≡ es ++ []
ends_there [] = refl
ends_there (x ∷ es) = ap (λ l. x ∷ l) (ends_there es)

pub goes_nowhere : (es : List Entry) → Extends es es
goes_nowhere es = ([], ends_there es)

module _ (begin : BeginIsConsistent) (differ : PayloadsDiffer) (f : Feed) (w : Window) (old : Files) where
  -- its entries follow the feed
  pub opened_follow : HoldsFollowing f w old → (es : List Entry) → IsFrom w old.journal es → AreFollowing f w es
  opened_follow L es from =
      ⊎_elim
      (λ (held : HoldsEntries L.bytes es). subst (AreFollowing f w) (entries_once differ L.bytes L.now.0 es L.now.1 held) L.now.2)
      (λ (begun : HoldsEntries L.bytes [] × (es ≡ Begin w ∷ [])). subst (AreFollowing f w) (sym begun.1) (first_follows begin f w))
      (subst (λ o. IsFrom w o es) L.told from)

  module _ (L : IsLeftBehind f w old) where
    -- and so do those that a crash leaves meanwhile
    opening_image : (image : List ℕ) → HoldsOldOrFirst w old.journal_crash image → HoldsSuch (GoesOnFrom f w old.journal_crash) image
    opening_image image =
        ⊎_elim
        (λ (kept : HoldsAnOldImage old.journal_crash image).
        let such = L.crashes kept.0 kept.1 in
        (such.0, record { payloads = kept.2 ∙ such.1.payloads; in_format = such.1.in_format }, record { follow = such.2; image = kept.0; might = kept.1; first = such.0; held = such.1; more = goes_nowhere such.0 }))
        (λ (begun : ((bytes : List ℕ) × old.journal_crash.may_leave bytes × HoldsEntries bytes []) × HoldsEntries image (Begin w ∷ [])).
        (Begin w ∷ [], begun.1, record { follow = first_follows begin f w; image = begun.0.0; might = begun.0.1; first = []; held = begun.0.2; more = (Begin w ∷ [], refl) }))

    pub opening_leaves : (new : Crash) → IfSome old.journal (λ _. CrashesLeave (HoldsOldOrFirst w old.journal_crash) old.journal_crash new) → CrashesLeave (HoldsSuch (GoesOnFrom f w old.journal_crash)) old.journal_crash new
    opening_leaves new any = crashes_weaker (HoldsOldOrFirst w old.journal_crash) (HoldsSuch (GoesOnFrom f w old.journal_crash)) old.journal_crash new opening_image (subst (λ o. IfSome o (λ _. CrashesLeave (HoldsOldOrFirst w old.journal_crash) old.journal_crash new)) L.held.told any)

    -- and behind it, while a follower goes on
    going_image : (es : List Entry) → IsFrom w old.journal es → IfSome old.journal old.journal_crash.may_leave → (image : List ℕ) → HoldsSuch (FollowsOn f w es) image → HoldsSuch (GoesOnFrom f w old.journal_crash) image
    going_image es from reads image such =
        let might : old.journal_crash.may_leave L.held.bytes = subst (λ o. IfSome o old.journal_crash.may_leave) L.held.told reads in
        let went = such.2 in (
          such.0,
          such.1,
          ⊎_elim
              (λ (held : HoldsEntries L.held.bytes es). record { follow = went.0; image = L.held.bytes; might = might; first = es; held = held; more = went.1 })
              (λ (begun : HoldsEntries L.held.bytes [] × (es ≡ Begin w ∷ [])). record { follow = went.0; image = L.held.bytes; might = might; first = []; held = begun.0; more = (such.0, refl) })
              (subst (λ o. IsFrom w o es) L.held.told from),
        )

    pub following_leaves : (es : List Entry) → IsFrom w old.journal es → IfSome old.journal old.journal_crash.may_leave → (seen : Option (List ℕ)) (mid new : Crash) → StillTells old.journal seen → IfSome old.journal (λ _. CrashesLeave (HoldsOldOrFirst w old.journal_crash) old.journal_crash mid) → IfSome seen (λ _. CrashesLeave (HoldsSuch (FollowsOn f w es)) mid new) → CrashesLeave (HoldsSuch (GoesOnFrom f w old.journal_crash)) old.journal_crash new
    following_leaves es from reads seen mid new still any more = by seen (subst (λ o. StillTells o seen) L.held.told still) more
      where
        by : (seen : Option (List ℕ)) → StillTells (Some L.held.bytes) seen → IfSome seen (λ _. CrashesLeave (HoldsSuch (FollowsOn f w es)) mid new) → CrashesLeave (HoldsSuch (GoesOnFrom f w old.journal_crash)) old.journal_crash new
        by None s m = absurd s
        by (Some bytes) s m = crashes_both (HoldsSuch (GoesOnFrom f w old.journal_crash)) old.journal_crash mid new (opening_leaves mid any) (crashes_weaker (HoldsSuch (FollowsOn f w es)) (HoldsSuch (GoesOnFrom f w old.journal_crash)) mid new (going_image es from reads) m)
