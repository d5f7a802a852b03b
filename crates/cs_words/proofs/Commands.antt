-- Commands by their first word, and the first word of each that is wrong.
use Rattle.std.proofs.Common.{◌≡◌, ◌≢◌, ◌<◌, ◌≤◌, ℕ, suc, ◌+◌, List, [], ◌∷◌, ◌++◌, length, codes, Bool, true, false, drop, take, Some, None, slice_get, refl, sym, ap, subst, ◌∙◌, arith}
use Rattle.std.proofs.lemmas.Option.{slice_get-get_or}
use Rattle.std.proofs.lemmas.List.{take_all, take-append-drop, append-nil}
use Rattle.cs_types.specs.Stamp.{Spells, stamp_text}
use Rattle.cs_types.specs.declared.names.Window.{Window}
use Rattle.cs_ddl.specs.Grammars.{queries}
use Rattle.cs_ddl.specs.Text.{IsTextOf}
use Rattle.cs_ddl.specs.declared.tree.ReadQuery.{ReadQuery}
use Rattle.cs_generator.specs.Generated.{IsSize}
use Rattle.cs_words.specs.Numbers.{number_reading}
use Rattle.cs_words.specs.Options.{IsOptions, AreOptions}
use Rattle.cs_words.specs.Place.{IsFirstWrong}
use Rattle.cs_words.specs.Words.{AreWindow, IsWindow, IsReplay, IsCheck, IsShow, IsGen, AreWords, IsWordsFault, IsFaultFrom, IsNoQueryAt}
use Rattle.cs_words.specs.declared.command.Command.TheVariants.{Replay, Check, Show, Gen}
use Rattle.cs_words.specs.declared.command.ReplayOptions.{ReplayOptions}
use Rattle.cs_words.specs.declared.command.WordsFault.{WordsFault}
use Rattle.cs_words.specs.declared.command.WordsFault.TheVariants.{At, Memory}
use Rattle.cs_words.proofs.Settings.{defaults, no_options}
use Rattle.cs_words.proofs.Samples.{some_stamp, some_window, gen_sample, some_query, some_query_text, query_sample}
use Rattle.cs_words.proofs.Windows.{IsInFront, wrong_in_front}
use Rattle.cs_words.proofs.Wrong.{none_some, same_word, within_at, drop_at, first_wrong, wrong_behind, wrong_same, Differs, begins, front_one, front_two, front_three, front_four}

head_of : {ws vs : List (List ℕ)} → ws ≡ vs → slice_get ws 0 ≡ slice_get vs 0
head_of e = ap (λ l. slice_get l 0) e

pub not_check : codes "replay" ≡ codes "check" → ⊥
not_check e = cc

pub not_gen : codes "replay" ≡ codes "gen" → ⊥
not_gen e = cc

pub check_not_gen : codes "check" ≡ codes "gen" → ⊥
check_not_gen e = cc

pub show_not_replay : codes "show" ≡ codes "replay" → ⊥
show_not_replay e = cc

pub show_not_check : codes "show" ≡ codes "check" → ⊥
show_not_check e = cc

pub show_not_gen : codes "show" ≡ codes "gen" → ⊥
show_not_gen e = cc

-- what a command is that begins with its word
pub some_replay : (all : List (List ℕ)) → AreWords all → slice_get all 0 ≡ Some (codes "replay") → (script journal output : List ℕ) × (w : Window) × (options : ReplayOptions) × IsReplay all script journal output w options
some_replay all (Replay script journal output stream start end options, is) e = (script, journal, output, record { stream = stream; start = start; end = end }, options, is)
some_replay all (Check script output stream start end, is) e = absurd (not_check (same_word (sym e ∙ head_of is.are)))
some_replay all (Show script moment query, is) e = absurd (show_not_replay (sym (same_word (sym e ∙ head_of is.are))))
some_replay all (Gen commits text, is) e = absurd (not_gen (same_word (sym e ∙ head_of is.are)))

pub some_check : (all : List (List ℕ)) → AreWords all → slice_get all 0 ≡ Some (codes "check") → (script output : List ℕ) × (w : Window) × IsCheck all script output w
some_check all (Replay script journal output stream start end options, is) e = absurd (not_check (sym (same_word (sym e ∙ head_of is.are))))
some_check all (Check script output stream start end, is) e = (script, output, record { stream = stream; start = start; end = end }, is)
some_check all (Show script moment query, is) e = absurd (show_not_check (sym (same_word (sym e ∙ head_of is.are))))
some_check all (Gen commits text, is) e = absurd (check_not_gen (same_word (sym e ∙ head_of is.are)))

pub some_show : (all : List (List ℕ)) → AreWords all → slice_get all 0 ≡ Some (codes "show") → (script : List ℕ) × (moment : ℕ) × (query : ReadQuery) × IsShow all script moment query
some_show all (Replay script journal output stream start end options, is) e = absurd (show_not_replay (same_word (sym e ∙ head_of is.are)))
some_show all (Check script output stream start end, is) e = absurd (show_not_check (same_word (sym e ∙ head_of is.are)))
some_show all (Show script moment query, is) e = (script, moment, query, is)
some_show all (Gen commits text, is) e = absurd (show_not_gen (same_word (sym e ∙ head_of is.are)))

pub some_gen : (all : List (List ℕ)) → AreWords all → slice_get all 0 ≡ Some (codes "gen") → (commits : ℕ) × (text : Bool) × IsGen all commits text
some_gen all (Replay script journal output stream start end options, is) e = absurd (not_gen (sym (same_word (sym e ∙ head_of is.are))))
some_gen all (Check script output stream start end, is) e = absurd (check_not_gen (sym (same_word (sym e ∙ head_of is.are))))
some_gen all (Show script moment query, is) e = absurd (show_not_gen (sym (same_word (sym e ∙ head_of is.are))))
some_gen all (Gen commits text, is) e = (commits, text, is)

-- behind the words that name files there are a window and options
replay_with : (s j o : List ℕ) (next last : List (List ℕ)) (w : Window) (options : ReplayOptions) → IsWindow next w → IsOptions w.end last options → AreWords (codes "replay" ∷ s ∷ j ∷ o ∷ (next ++ last))
replay_with s j o next last w options is are = (Replay s j o w.stream w.start w.end options, record { next = next; last = last; are = refl; window = is; options_are = are })

replay_window : (s j o : List ℕ) (l : List (List ℕ)) → AreWindow l → AreWords (codes "replay" ∷ s ∷ j ∷ o ∷ l)
replay_window s j o l is =
    subst (λ t. AreWords (codes "replay" ∷ s ∷ j ∷ o ∷ t)) (append-nil l) (replay_with s j o l [] is.0 (defaults is.0.end) is.1 (no_options is.0.end))

front_of_replay : (s j o : List ℕ) (l : List (List ℕ)) → AreWords (codes "replay" ∷ s ∷ j ∷ o ∷ l) → IsInFront l
front_of_replay s j o l are =
    let is = some_replay _ are refl in
    record { next = is.5.next; last = is.5.last; are = ap (λ ws. drop 4 ws) is.5.are; window = (is.3, is.5.window) }

-- behind a window there are options
module _ (one_stamp : (text : List ℕ) (s t : ℕ) → Spells text s → Spells text t → s ≡ t) where
  options_of_replay : (s j o a b c : List ℕ) (w : Window) (l : List (List ℕ)) → IsWindow (a ∷ b ∷ c ∷ []) w → AreWords (codes "replay" ∷ s ∷ j ∷ o ∷ a ∷ b ∷ c ∷ l) → AreOptions w.end l
  options_of_replay s j o a b c w l window are =
      let is = some_replay _ are refl in
      let words : a ∷ b ∷ c ∷ l ≡ is.5.next ++ is.5.last = ap (λ ws. drop 4 ws) is.5.are in
      let front : a ∷ b ∷ c ∷ l ≡ is.3.stream ∷ is.5.window.start_text ∷ is.5.window.end_text ∷ is.5.last = words ∙ ap (λ ws. ws ++ is.5.last) is.5.window.are in
      let behind : l ≡ is.5.last = ap (λ ws. drop 3 ws) front in
      let third : c ≡ is.5.window.end_text = same_word (ap (λ ws. slice_get ws 2) front) in
      let mine : c ≡ window.end_text = same_word (ap (λ ws. slice_get ws 2) window.are) in
      let end : is.3.end ≡ w.end = one_stamp c is.3.end w.end (subst (λ (t : List ℕ). Spells t is.3.end) (sym third) is.5.window.end_is) (subst (λ (t : List ℕ). Spells t w.end) (sym mine) window.end_is) in
      subst (λ e. AreOptions e l) end (is.4, subst (λ ws. IsOptions is.3.end ws is.4) (sym behind) is.5.options_are)

  wrong_in_options : (ws : List (List ℕ)) (s j o a b c : List ℕ) (w : Window) (k : ℕ) → ws ≡ codes "replay" ∷ s ∷ j ∷ o ∷ a ∷ b ∷ c ∷ drop 7 ws → IsWindow (a ∷ b ∷ c ∷ []) w
      → IsFirstWrong (AreOptions w.end) (drop 7 ws) k → IsFirstWrong AreWords ws (7 + k)
  wrong_in_options ws s j o a b c w k e window wrong =
      let inside = wrong_same (λ l. AreWords (codes "replay" ∷ s ∷ j ∷ o ∷ a ∷ b ∷ c ∷ l)) (AreOptions w.end) (λ l is. replay_with s j o (a ∷ b ∷ c ∷ []) l w is.0 window is.1) (λ l are. options_of_replay s j o a b c w l window are) (drop 7 ws) k wrong in
      let two = wrong_behind (λ l. AreWords (codes "replay" ∷ s ∷ j ∷ o ∷ a ∷ l)) b _ _ (wrong_behind (λ l. AreWords (codes "replay" ∷ s ∷ j ∷ o ∷ a ∷ b ∷ l)) c _ _ inside) in
      let four = wrong_behind (λ l. AreWords (codes "replay" ∷ s ∷ j ∷ l)) o _ _ (wrong_behind (λ l. AreWords (codes "replay" ∷ s ∷ j ∷ o ∷ l)) a _ _ two) in
      let six = wrong_behind (λ l. AreWords (codes "replay" ∷ l)) s _ _ (wrong_behind (λ l. AreWords (codes "replay" ∷ s ∷ l)) j _ _ four) in
      let place : suc (suc (suc (suc (suc (suc (suc k)))))) ≡ 7 + k = omega arith in
      subst (λ l. IsFirstWrong AreWords l (7 + k)) (sym e) (subst (λ (n : ℕ). IsFirstWrong AreWords (codes "replay" ∷ s ∷ j ∷ o ∷ a ∷ b ∷ c ∷ drop 7 ws) n) place (wrong_behind AreWords (codes "replay") _ _ six))

  fault_in_options : (ws : List (List ℕ)) (s j o a b c : List ℕ) (w : Window) (fault : WordsFault) → ws ≡ codes "replay" ∷ s ∷ j ∷ o ∷ a ∷ b ∷ c ∷ drop 7 ws → IsWindow (a ∷ b ∷ c ∷ []) w
      → IsFaultFrom (AreOptions w.end) ws 7 fault → IsWordsFault ws fault
  fault_in_options ws s j o a b c w (At place) e window is = subst (λ (n : ℕ). IsFirstWrong AreWords ws n) (sym is.1) (wrong_in_options ws s j o a b c w is.0 e window is.2)
  fault_in_options ws s j o a b c w Memory e window is = tt

check_window : (s o : List ℕ) (l : List (List ℕ)) → AreWindow l → AreWords (codes "check" ∷ s ∷ o ∷ l)
check_window s o l is = (Check s o is.0.stream is.0.start is.0.end, record { last = l; are = refl; window = is.1 })

window_of_check : (s o : List ℕ) (l : List (List ℕ)) → AreWords (codes "check" ∷ s ∷ o ∷ l) → AreWindow l
window_of_check s o l are =
    let is = some_check _ are refl in
    let same : l ≡ is.3.last = ap (λ ws. drop 3 ws) is.3.are in
    (is.2, subst (λ ws. IsWindow ws is.2) (sym same) is.3.window)

drop_more : (ws : List (List ℕ)) → drop 3 (drop 4 ws) ≡ drop 7 ws
drop_more [] = refl
drop_more (a ∷ []) = refl
drop_more (a ∷ b ∷ []) = refl
drop_more (a ∷ b ∷ c ∷ []) = refl
drop_more (a ∷ b ∷ c ∷ d ∷ ws) = refl

replay_words : (ws : List (List ℕ)) (s j o : List ℕ) → slice_get ws 0 ≡ Some (codes "replay") → slice_get ws 1 ≡ Some s → slice_get ws 2 ≡ Some j → slice_get ws 3 ≡ Some o
    → ws ≡ codes "replay" ∷ s ∷ j ∷ o ∷ drop 4 ws
replay_words ws s j o e0 e1 e2 e3 =
    drop_at ws 0 _ e0 ∙ ap (λ t. codes "replay" ∷ t) (drop_at ws 1 s e1 ∙ ap (λ t. s ∷ t) (drop_at ws 2 j e2 ∙ ap (λ t. j ∷ t) (drop_at ws 3 o e3)))

-- the words of a replay with three behind those that name files
replay_long : (ws : List (List ℕ)) (s j o : List ℕ) (w : Window) → ws ≡ codes "replay" ∷ s ∷ j ∷ o ∷ drop 4 ws → (is : IsWindow (take 3 (drop 4 ws)) w) → ws ≡ codes "replay" ∷ s ∷ j ∷ o ∷ w.stream ∷ is.start_text ∷ is.end_text ∷ drop 7 ws
replay_long ws s j o w e is =
    e ∙ ap (λ t. codes "replay" ∷ s ∷ j ∷ o ∷ t) (sym (take-append-drop 3 (drop 4 ws)) ∙ ap (λ t. t ++ drop 3 (drop 4 ws)) is.are ∙ ap (λ t. w.stream ∷ is.start_text ∷ is.end_text ∷ t) (drop_more ws))

pub check_words : (ws : List (List ℕ)) (s o : List ℕ) → slice_get ws 0 ≡ Some (codes "check") → slice_get ws 1 ≡ Some s → slice_get ws 2 ≡ Some o → ws ≡ codes "check" ∷ s ∷ o ∷ drop 3 ws
check_words ws s o e0 e1 e2 = drop_at ws 0 _ e0 ∙ ap (λ t. codes "check" ∷ t) (drop_at ws 1 s e1 ∙ ap (λ t. s ∷ t) (drop_at ws 2 o e2))

pub wrong_in_replay : (ws : List (List ℕ)) (s j o : List ℕ) (k : ℕ) → slice_get ws 0 ≡ Some (codes "replay") → slice_get ws 1 ≡ Some s → slice_get ws 2 ≡ Some j → slice_get ws 3 ≡ Some o
    → IsFirstWrong AreWindow (take 3 (drop 4 ws)) k → IsFirstWrong AreWords ws (k + 4)
wrong_in_replay ws s j o k e0 e1 e2 e3 wrong =
    let inside = wrong_in_front (λ l. AreWords (codes "replay" ∷ s ∷ j ∷ o ∷ l)) (replay_window s j o) (front_of_replay s j o) (drop 4 ws) k wrong in
    let whole = wrong_behind AreWords (codes "replay") (s ∷ j ∷ o ∷ drop 4 ws) (suc (suc (suc k)))
    (wrong_behind (λ l. AreWords (codes "replay" ∷ l)) s (j ∷ o ∷ drop 4 ws) (suc (suc k))
    (wrong_behind (λ l. AreWords (codes "replay" ∷ s ∷ l)) j (o ∷ drop 4 ws) (suc k)
    (wrong_behind (λ l. AreWords (codes "replay" ∷ s ∷ j ∷ l)) o (drop 4 ws) k inside))) in
    let place : suc (suc (suc (suc k))) ≡ k + 4 = omega arith in
    subst (λ n. IsFirstWrong AreWords ws n) place (subst (λ l. IsFirstWrong AreWords l (suc (suc (suc (suc k))))) (sym (replay_words ws s j o e0 e1 e2 e3)) whole)

pub replay_whole : (ws : List (List ℕ)) (s j o : List ℕ) → slice_get ws 0 ≡ Some (codes "replay") → slice_get ws 1 ≡ Some s → slice_get ws 2 ≡ Some j → slice_get ws 3 ≡ Some o
    → ws ≡ codes "replay" ∷ s ∷ j ∷ o ∷ (take 3 (drop 4 ws) ++ drop 7 ws)
replay_whole ws s j o e0 e1 e2 e3 =
    replay_words ws s j o e0 e1 e2 e3 ∙ ap (λ t. codes "replay" ∷ s ∷ j ∷ o ∷ t) (sym (take-append-drop 3 (drop 4 ws)) ∙ ap (λ t. take 3 (drop 4 ws) ++ t) (drop_more ws))

pub replay_options_wrong : ((text : List ℕ) (s t : ℕ) → Spells text s → Spells text t → s ≡ t) → (ws : List (List ℕ)) (s j o : List ℕ) (w : Window) (fault : WordsFault)
    → slice_get ws 0 ≡ Some (codes "replay") → slice_get ws 1 ≡ Some s → slice_get ws 2 ≡ Some j → slice_get ws 3 ≡ Some o → IsWindow (take 3 (drop 4 ws)) w → IsFaultFrom (AreOptions w.end) ws 7 fault → IsWordsFault ws fault
replay_options_wrong one ws s j o w fault e0 e1 e2 e3 is wrong =
    fault_in_options one ws s j o w.stream is.start_text is.end_text w fault (replay_long ws s j o w (replay_words ws s j o e0 e1 e2 e3) is) (subst (λ l. IsWindow l w) is.are is) wrong

pub wrong_in_check : (ws : List (List ℕ)) (s o : List ℕ) (k : ℕ) → slice_get ws 0 ≡ Some (codes "check") → slice_get ws 1 ≡ Some s → slice_get ws 2 ≡ Some o
    → IsFirstWrong AreWindow (drop 3 ws) k → IsFirstWrong AreWords ws (k + 3)
wrong_in_check ws s o k e0 e1 e2 wrong =
    let inside = wrong_same (λ l. AreWords (codes "check" ∷ s ∷ o ∷ l)) AreWindow (check_window s o) (window_of_check s o) (drop 3 ws) k wrong in
    let whole = wrong_behind AreWords (codes "check") (s ∷ o ∷ drop 3 ws) (suc (suc k))
    (wrong_behind (λ l. AreWords (codes "check" ∷ l)) s (o ∷ drop 3 ws) (suc k)
    (wrong_behind (λ l. AreWords (codes "check" ∷ s ∷ l)) o (drop 3 ws) k inside)) in
    let place : suc (suc (suc k)) ≡ k + 3 = omega arith in
    subst (λ n. IsFirstWrong AreWords ws n) place (subst (λ l. IsFirstWrong AreWords l (suc (suc (suc k)))) (sym (check_words ws s o e0 e1 e2)) whole)

module _ (spelled : Spells (stamp_text some_stamp) some_stamp) where
  replay_sample : (s j o : List ℕ) → AreWords (codes "replay" ∷ s ∷ j ∷ o ∷ codes "S" ∷ stamp_text some_stamp ∷ stamp_text some_stamp ∷ [])
  replay_sample s j o = replay_window s j o _ (some_window spelled)

  check_sample : (s o : List ℕ) → AreWords (codes "check" ∷ s ∷ o ∷ codes "S" ∷ stamp_text some_stamp ∷ stamp_text some_stamp ∷ [])
  check_sample s o = check_window s o _ (some_window spelled)

  pub replay_one : (ws : List (List ℕ)) → slice_get ws 0 ≡ Some (codes "replay") → slice_get ws 1 ≡ None → IsFirstWrong AreWords ws 1
  replay_one ws e0 none = first_wrong AreWords ws 1 (omega (arith, within_at ws 0 _ e0)) (begins AreWords _ _ _ (front_one ws _ e0) (replay_sample [] [] []))
      (λ all are same. let is = some_replay all are (sym (same 0 (omega arith)) ∙ e0) in none_some (sym none ∙ same 1 (omega arith) ∙ ap (λ l. slice_get l 1) is.5.are))

  pub replay_two : (ws : List (List ℕ)) (s : List ℕ) → slice_get ws 0 ≡ Some (codes "replay") → slice_get ws 1 ≡ Some s → slice_get ws 2 ≡ None → IsFirstWrong AreWords ws 2
  replay_two ws s e0 e1 none = first_wrong AreWords ws 2 (omega (arith, within_at ws 1 _ e1)) (begins AreWords _ _ _ (front_two ws _ s e0 e1) (replay_sample s [] []))
      (λ all are same. let is = some_replay all are (sym (same 0 (omega arith)) ∙ e0) in none_some (sym none ∙ same 2 (omega arith) ∙ ap (λ l. slice_get l 2) is.5.are))

  pub replay_three : (ws : List (List ℕ)) (s j : List ℕ) → slice_get ws 0 ≡ Some (codes "replay") → slice_get ws 1 ≡ Some s → slice_get ws 2 ≡ Some j → slice_get ws 3 ≡ None → IsFirstWrong AreWords ws 3
  replay_three ws s j e0 e1 e2 none = first_wrong AreWords ws 3 (omega (arith, within_at ws 2 _ e2)) (begins AreWords _ _ _ (front_three ws _ s j e0 e1 e2) (replay_sample s j []))
      (λ all are same. let is = some_replay all are (sym (same 0 (omega arith)) ∙ e0) in none_some (sym none ∙ same 3 (omega arith) ∙ ap (λ l. slice_get l 3) is.5.are))

  pub check_one : (ws : List (List ℕ)) → slice_get ws 0 ≡ Some (codes "check") → slice_get ws 1 ≡ None → IsFirstWrong AreWords ws 1
  check_one ws e0 none = first_wrong AreWords ws 1 (omega (arith, within_at ws 0 _ e0)) (begins AreWords _ _ _ (front_one ws _ e0) (check_sample [] []))
      (λ all are same. let is = some_check all are (sym (same 0 (omega arith)) ∙ e0) in none_some (sym none ∙ same 1 (omega arith) ∙ ap (λ l. slice_get l 1) is.3.are))

  pub check_two : (ws : List (List ℕ)) (s : List ℕ) → slice_get ws 0 ≡ Some (codes "check") → slice_get ws 1 ≡ Some s → slice_get ws 2 ≡ None → IsFirstWrong AreWords ws 2
  check_two ws s e0 e1 none = first_wrong AreWords ws 2 (omega (arith, within_at ws 1 _ e1)) (begins AreWords _ _ _ (front_two ws _ s e0 e1) (check_sample s []))
      (λ all are same. let is = some_check all are (sym (same 0 (omega arith)) ∙ e0) in none_some (sym none ∙ same 2 (omega arith) ∙ ap (λ l. slice_get l 2) is.3.are))

-- show SCRIPT MOMENT QUERY
show_words : (s m q : List ℕ) (moment : ℕ) (query : ReadQuery) → Spells m moment → IsTextOf queries q query → AreWords (codes "show" ∷ s ∷ m ∷ q ∷ [])
show_words s m q moment query is-moment is-query = (Show s moment query, record { moment_text = m; query_text = q; are = refl; moment_is = is-moment; query_is = is-query })

module _ (spelled : Spells (stamp_text some_stamp) some_stamp) where
  show_sample : (s : List ℕ) → AreWords (codes "show" ∷ s ∷ stamp_text some_stamp ∷ some_query_text ∷ [])
  show_sample s = show_words s _ _ _ _ spelled query_sample

  pub show_one : (ws : List (List ℕ)) → slice_get ws 0 ≡ Some (codes "show") → slice_get ws 1 ≡ None → IsFirstWrong AreWords ws 1
  show_one ws e0 none = first_wrong AreWords ws 1 (omega (arith, within_at ws 0 _ e0)) (begins AreWords _ _ _ (front_one ws _ e0) (show_sample []))
      (λ all are same. let is = some_show all are (sym (same 0 (omega arith)) ∙ e0) in none_some (sym none ∙ same 1 (omega arith) ∙ ap (λ l. slice_get l 1) is.3.are))

  pub show_two : (ws : List (List ℕ)) (s : List ℕ) → slice_get ws 0 ≡ Some (codes "show") → slice_get ws 1 ≡ Some s → ((text : List ℕ) (at : ℕ) → slice_get ws 2 ≡ Some text → Spells text at → ⊥) → IsFirstWrong AreWords ws 2
  show_two ws s e0 e1 bad = first_wrong AreWords ws 2 (omega (arith, within_at ws 1 _ e1)) (begins AreWords _ _ _ (front_two ws _ s e0 e1) (show_sample s))
      (λ all are same. let is = some_show all are (sym (same 0 (omega arith)) ∙ e0) in bad is.3.moment_text is.1 (same 2 (omega arith) ∙ ap (λ l. slice_get l 2) is.3.are) is.3.moment_is)

show_three : (ws : List (List ℕ)) (s m : List ℕ) (moment : ℕ) → slice_get ws 0 ≡ Some (codes "show") → slice_get ws 1 ≡ Some s → slice_get ws 2 ≡ Some m → Spells m moment
    → ((text : List ℕ) (query : ReadQuery) → slice_get ws 3 ≡ Some text → IsTextOf queries text query → ⊥) → IsFirstWrong AreWords ws 3
show_three ws s m moment e0 e1 e2 is-moment bad = first_wrong AreWords ws 3 (omega (arith, within_at ws 2 _ e2)) (begins AreWords _ _ _ (front_three ws _ s m e0 e1 e2) (show_words s m some_query_text moment some_query is-moment query_sample))
    (λ all are same. let is = some_show all are (sym (same 0 (omega arith)) ∙ e0) in bad is.3.query_text is.2 (same 3 (omega arith) ∙ ap (λ l. slice_get l 3) is.3.are) is.3.query_is)

pub show_fault : (ws : List (List ℕ)) (s m : List ℕ) (moment : ℕ) (fault : WordsFault) → slice_get ws 0 ≡ Some (codes "show") → slice_get ws 1 ≡ Some s → slice_get ws 2 ≡ Some m → Spells m moment
    → IsNoQueryAt ws 3 fault → IsWordsFault ws fault
show_fault ws s m moment (At place) e0 e1 e2 is-moment bad = subst (λ (n : ℕ). IsFirstWrong AreWords ws n) (sym bad.0) (show_three ws s m moment e0 e1 e2 is-moment bad.1)
show_fault ws s m moment Memory e0 e1 e2 is-moment bad = tt

pub show_four : (ws : List (List ℕ)) (s m q : List ℕ) (moment : ℕ) (query : ReadQuery) → slice_get ws 0 ≡ Some (codes "show") → slice_get ws 1 ≡ Some s → slice_get ws 2 ≡ Some m → slice_get ws 3 ≡ Some q
    → Spells m moment → IsTextOf queries q query → 4 < length ws → IsFirstWrong AreWords ws 4
show_four ws s m q moment query e0 e1 e2 e3 is-moment is-query more = first_wrong AreWords ws 4 (omega arith) (begins AreWords _ [] _ (front_four ws _ s m q e0 e1 e2 e3) (show_words s m q moment query is-moment is-query))
    (λ all are same.
    let is = some_show all are (sym (same 0 (omega arith)) ∙ e0) in
    none_some (sym (sym (slice_get-get_or ws 4 [] more) ∙ same 4 (omega arith) ∙ ap (λ l. slice_get l 4) is.3.are)))

pub show_four_words : (ws : List (List ℕ)) (s m q : List ℕ) → slice_get ws 0 ≡ Some (codes "show") → slice_get ws 1 ≡ Some s → slice_get ws 2 ≡ Some m → slice_get ws 3 ≡ Some q → length ws ≤ 4
    → ws ≡ codes "show" ∷ s ∷ m ∷ q ∷ []
show_four_words ws s m q e0 e1 e2 e3 le = sym (take_all 4 ws le) ∙ front_four ws _ s m q e0 e1 e2 e3

-- no command has this first word
pub no_command : (ws : List (List ℕ)) → (slice_get ws 0 ≡ Some (codes "replay") → ⊥) → (slice_get ws 0 ≡ Some (codes "check") → ⊥) → (slice_get ws 0 ≡ Some (codes "show") → ⊥) → (slice_get ws 0 ≡ Some (codes "gen") → ⊥) → IsFirstWrong AreWords ws 0
no_command ws r c s g = first_wrong AreWords ws 0 (omega arith) (begins AreWords [] _ _ refl gen_sample) bad
  where
    bad : Differs AreWords ws 0
    bad all (Replay script journal output stream start end options, is) same = r (same 0 (omega arith) ∙ head_of is.are)
    bad all (Check script output stream start end, is) same = c (same 0 (omega arith) ∙ head_of is.are)
    bad all (Show script moment query, is) same = s (same 0 (omega arith) ∙ head_of is.are)
    bad all (Gen commits text, is) same = g (same 0 (omega arith) ∙ head_of is.are)

-- gen N, with its number
pub gen_one : (ws : List (List ℕ)) → slice_get ws 0 ≡ Some (codes "gen") → ((text : List ℕ) (n : ℕ) → slice_get ws 1 ≡ Some text → number_reading text ≡ Some n → IsSize n → ⊥) → IsFirstWrong AreWords ws 1
gen_one ws e0 bad = first_wrong AreWords ws 1 (omega (arith, within_at ws 0 _ e0)) (begins AreWords _ _ _ (front_one ws _ e0) gen_sample)
    (λ all are same. let is = some_gen all are (sym (same 0 (omega arith)) ∙ e0) in bad is.2.number is.0 (same 1 (omega arith) ∙ ap (λ l. slice_get l 1) is.2.are) is.2.number_is is.2.size)

gen_short : (number : List ℕ) (n : ℕ) → number_reading number ≡ Some n → IsSize n → AreWords (codes "gen" ∷ number ∷ [])
gen_short number n is size = (Gen n false, record { number = number; are = refl; number_is = is; size = size })

gen_long : (number : List ℕ) (n : ℕ) → number_reading number ≡ Some n → IsSize n → AreWords (codes "gen" ∷ number ∷ codes "--text" ∷ [])
gen_long number n is size = (Gen n true, record { number = number; are = refl; number_is = is; size = size })

pub gen_two : (ws : List (List ℕ)) (number : List ℕ) (n : ℕ) → slice_get ws 0 ≡ Some (codes "gen") → slice_get ws 1 ≡ Some number → number_reading number ≡ Some n → IsSize n
    → length ws ≢ 2 → (slice_get ws 2 ≡ Some (codes "--text") → ⊥) → IsFirstWrong AreWords ws 2
gen_two ws number n e0 e1 is size more bad = first_wrong AreWords ws 2 (omega (arith, within_at ws 1 _ e1)) (begins AreWords _ [] _ (front_two ws _ number e0 e1) (gen_short number n is size)) differs
  where
    longer : 2 < length ws
    longer = omega (arith, more, within_at ws 1 _ e1)

    differs : Differs AreWords ws 2
    differs all are same = at (some_gen all are (sym (same 0 (omega arith)) ∙ e0))
      where
        at : (commits : ℕ) × (text : Bool) × IsGen all commits text → ⊥
        at (commits, true, r) = bad (same 2 (omega arith) ∙ ap (λ l. slice_get l 2) r.are)
        at (commits, false, r) = none_some (sym (sym (slice_get-get_or ws 2 [] longer) ∙ same 2 (omega arith) ∙ ap (λ l. slice_get l 2) r.are))

pub gen_three : (ws : List (List ℕ)) (number : List ℕ) (n : ℕ) → slice_get ws 0 ≡ Some (codes "gen") → slice_get ws 1 ≡ Some number → number_reading number ≡ Some n → IsSize n
    → slice_get ws 2 ≡ Some (codes "--text") → 3 < length ws → IsFirstWrong AreWords ws 3
gen_three ws number n e0 e1 is size e2 more = first_wrong AreWords ws 3 (omega arith) (begins AreWords _ [] _ (front_three ws _ number _ e0 e1 e2) (gen_long number n is size)) differs
  where
    differs : Differs AreWords ws 3
    differs all are same = at (some_gen all are (sym (same 0 (omega arith)) ∙ e0))
      where
        at : (commits : ℕ) × (text : Bool) × IsGen all commits text → ⊥
        at (commits, true, r) = none_some (sym (sym (slice_get-get_or ws 3 [] more) ∙ same 3 (omega arith) ∙ ap (λ l. slice_get l 3) r.are))
        at (commits, false, r) = none_some (sym (sym (slice_get-get_or ws 3 [] more) ∙ same 3 (omega arith) ∙ ap (λ l. slice_get l 3) r.are))

pub gen_two_words : (ws : List (List ℕ)) (number : List ℕ) → slice_get ws 0 ≡ Some (codes "gen") → slice_get ws 1 ≡ Some number → length ws ≡ 2 → ws ≡ codes "gen" ∷ number ∷ []
gen_two_words ws number e0 e1 two = sym (take_all 2 ws (omega (arith, two))) ∙ front_two ws _ number e0 e1

pub gen_three_words : (ws : List (List ℕ)) (number : List ℕ) → slice_get ws 0 ≡ Some (codes "gen") → slice_get ws 1 ≡ Some number → slice_get ws 2 ≡ Some (codes "--text") → length ws ≤ 3
    → ws ≡ codes "gen" ∷ number ∷ codes "--text" ∷ []
gen_three_words ws number e0 e1 e2 le = sym (take_all 3 ws le) ∙ front_three ws _ number _ e0 e1 e2
