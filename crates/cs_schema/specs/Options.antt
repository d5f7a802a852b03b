-- The options of a change stream: value_capture_type, retention_period and the five that leave changes out (Spanner's page 'Manage change streams'; a retention is 1 to 7 days, and one day where none is set).
use Rattle.std.specs.Prelude.{◌≡◌, ℕ, List, [], ◌∷◌, ◌++◌, ◌+◌, ◌-◌, ◌*◌, Some, None, cond, Bool, true, ◌&&◌, ◌==◌, nat_le, codes}
use Rattle.std.specs.declared.option.Option.{Option}
use Rattle.std.specs.Cmp.Lexicographic.{pointwise}
use Rattle.std.specs.Str.Lossy.{utf8_lossy}
use Rattle.std.specs.Str.Parse.{digits_value}
use Rattle.cs_types.specs.Digits.{all_digits}
use Rattle.cs_ddl.specs.declared.tree.OptionValue.{OptionValue}
use Rattle.cs_ddl.specs.declared.tree.OptionValue.TheVariants.{Text, True, False, Null}
use Rattle.cs_ddl.specs.declared.tree.OptionTree.{OptionTree}
use Rattle.cs_types.specs.declared.names.CaptureType.{CaptureType}
use Rattle.cs_types.specs.declared.names.CaptureType.TheVariants.{OldAndNewValues, NewValues, NewRow, NewRowAndOldValues}
use Rattle.cs_schema.specs.declared.setting.Setting.{Setting}
use Rattle.cs_schema.specs.declared.setting.Setting.TheVariants.{Wrong, Unset, Capture, Retention, NoRetention, Exclusion}
use Rattle.cs_schema.specs.declared.fault.SchemaFault.{SchemaFault}
use Rattle.cs_schema.specs.declared.fault.SchemaFault.TheVariants.{BadOption, BadRetention, NotBuilt}
use Rattle.std.specs.Option.{option_or}
use Rattle.cs_types.specs.Names.{is_among}
use Rattle.cs_schema.specs.Lengths.{is_digit}

abbrev pub is_text : List ℕ → List ℕ → Bool
is_text word text = pointwise ◌==◌ word text

-- the microseconds of a count of hours from 24 to 168
abbrev pub hours : ℕ → Option ℕ
hours n = cond (nat_le 24 n && nat_le n 168) (Some (n * 3600000000)) None

-- the microseconds of a count of days from 1 to 7
abbrev pub days : ℕ → Option ℕ
days n = cond (nat_le 1 n && nat_le n 7) (Some (n * 86400000000)) None

-- one letter, and nothing behind it: h for hours, d for days
abbrev pub unit_of : ℕ → ℕ → List ℕ → Option ℕ
unit_of n letter [] = cond (letter == 104) (hours n) (cond (letter == 100) (days n) None)
unit_of n letter (c ∷ cs) = None

-- a text that means so many microseconds: decimal digits, whose number is from 24 to 168, and h, or from 1 to 7, and d
pub record IsRetention (text : List ℕ) (us : ℕ) : Type 0 where
  pub digits : List ℕ
  pub letter : ℕ
  pub made : text ≡ digits ++ letter ∷ []
  pub decimal : all_digits digits ≡ true
  pub unit : unit_of (digits_value 10 digits) letter [] ≡ Some us

-- the same, read from the left: the retention whose number goes on from n with these digits
abbrev pub retention_from : ℕ → List ℕ → Option ℕ
retention_from n [] = None
retention_from n (c ∷ cs) = cond (is_digit c) (retention_from (n * 10 + (c - 48)) cs) (unit_of n c cs)

abbrev pub or_no_retention : Option ℕ → Setting
or_no_retention None = NoRetention
or_no_retention (Some us) = Retention us

abbrev pub capture_of_text : List ℕ → Setting
capture_of_text t =
    cond (is_text t (codes "OLD_AND_NEW_VALUES")) (Capture OldAndNewValues)
    (cond (is_text t (codes "NEW_VALUES")) (Capture NewValues)
    (cond (is_text t (codes "NEW_ROW")) (Capture NewRow)
    (cond (is_text t (codes "NEW_ROW_AND_OLD_VALUES")) (Capture NewRowAndOldValues)
    Wrong)))

abbrev pub capture_setting : OptionValue → Setting
capture_setting (Text t) = capture_of_text t
capture_setting True = Wrong
capture_setting False = Wrong
capture_setting Null = Unset

abbrev pub retention_setting : OptionValue → Setting
retention_setting (Text t) = or_no_retention (retention_from 0 t)
retention_setting True = Wrong
retention_setting False = Wrong
retention_setting Null = Unset

abbrev pub is_exclusion : List ℕ → Bool
is_exclusion name =
    cond (is_text name (codes "exclude_insert")) true
    (cond (is_text name (codes "exclude_update")) true
    (cond (is_text name (codes "exclude_delete")) true
    (cond (is_text name (codes "exclude_ttl_deletes")) true
    (is_text name (codes "allow_txn_exclusion")))))

-- what an option sets
abbrev pub setting_of : OptionTree → Setting
setting_of o =
    cond (is_text o.name (codes "value_capture_type")) (capture_setting o.value)
    (cond (is_text o.name (codes "retention_period")) (retention_setting o.value)
    (cond (is_exclusion o.name) Exclusion Wrong))

abbrev pub wrong_fault : Setting → List ℕ → Option SchemaFault
wrong_fault Wrong name = Some (BadOption name)
wrong_fault Unset name = None
wrong_fault (Capture c) name = None
wrong_fault (Retention us) name = None
wrong_fault NoRetention name = None
wrong_fault Exclusion name = None

-- the first option that is unknown, has a wrong value or stands among the earlier ones
abbrev pub option_fault : List (List ℕ) → List OptionTree → Option SchemaFault
option_fault earlier [] = None
option_fault earlier (o ∷ os) =
    cond (is_among (utf8_lossy o.name) earlier) (Some (BadOption (utf8_lossy o.name)))
    (option_or (wrong_fault (setting_of o) (utf8_lossy o.name)) (option_fault (earlier ++ utf8_lossy o.name ∷ []) os))

abbrev pub retention_if : Setting → Option SchemaFault
retention_if Wrong = None
retention_if Unset = None
retention_if (Capture c) = None
retention_if (Retention us) = None
retention_if NoRetention = Some BadRetention
retention_if Exclusion = None

-- a retention out of its range
abbrev pub retention_fault : OptionTree → Option SchemaFault
retention_fault o = retention_if (setting_of o)

abbrev pub built_if : Setting → Option SchemaFault
built_if Wrong = None
built_if Unset = None
built_if (Capture c) = None
built_if (Retention us) = None
built_if NoRetention = None
built_if Exclusion = Some NotBuilt

-- an option that is not built
abbrev pub built_fault : OptionTree → Option SchemaFault
built_fault o = built_if (setting_of o)

abbrev pub capture_after : CaptureType → Setting → CaptureType
capture_after before Wrong = before
capture_after before Unset = before
capture_after before (Capture c) = c
capture_after before (Retention us) = before
capture_after before NoRetention = before
capture_after before Exclusion = before

-- the capture type that options set, or this one
abbrev pub capture_set : CaptureType → List OptionTree → CaptureType
capture_set before [] = before
capture_set before (o ∷ os) = capture_set (capture_after before (setting_of o)) os

abbrev pub retention_after : ℕ → Setting → ℕ
retention_after before Wrong = before
retention_after before Unset = before
retention_after before (Capture c) = before
retention_after before (Retention us) = us
retention_after before NoRetention = before
retention_after before Exclusion = before

-- the retention that options set, or this one
abbrev pub retention_set : ℕ → List OptionTree → ℕ
retention_set before [] = before
retention_set before (o ∷ os) = retention_set (retention_after before (setting_of o)) os
