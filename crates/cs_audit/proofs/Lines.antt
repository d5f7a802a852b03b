-- Two wanted changes have two lines, where the conditions hold; and where two lines differ, the first condition does.
use Rattle.std.proofs.Common.{◌≡◌, List, get_or, arith, ap}
use Rattle.std.proofs.lemmas.List.Elements.{Contains-get_or}
use Rattle.cs_types.specs.declared.change.Change.{Change}
use Rattle.cs_output.specs.Line.{change_line}
use Rattle.cs_audit.specs.Audit.{HaveOwnLines, AreApart}
use Rattle.cs_audit.specs.declared.conditions.Name.{Name}
use Rattle.cs_audit.specs.Index.{DifferBy, DifferInLines, name_of}
use Rattle.cs_audit.proofs.Good.{same_change}

-- equal lines tell one transaction, as the law of lines says
abbrev pub LinesTellTransactions : Type 0
LinesTellTransactions = (c d : Change) → change_line c ≡ change_line d → c.tx ≡ d.tx

pub differ_in_lines : LinesTellTransactions → (wanted : List Change) → HaveOwnLines wanted → AreApart wanted → DifferInLines wanted
differ_in_lines same_tx wanted own apart = λ i j d less within same.
    apart i j d less within (own (get_or wanted i d) (get_or wanted j d) (Contains-get_or wanted i d (omega (arith, less, within))) (Contains-get_or wanted j d within) same)
    (same_tx (get_or wanted i d) (get_or wanted j d) same)

-- and what follows for the two conditions

pub own_lines : (wanted : List Change) → DifferInLines wanted → HaveOwnLines wanted
own_lines wanted differ = λ c d has has' same. ap (λ (x : Change). x.row) (same_change wanted c d differ has has' same)

pub apart_from_names : (wanted : List Change) → DifferBy name_of wanted → AreApart wanted
apart_from_names wanted differ = λ i j d less within rows txs. differ i j d less within (λ k. record { row = rows k; tx = txs k })

pub names_from_apart : (wanted : List Change) → AreApart wanted → DifferBy name_of wanted
names_from_apart wanted apart = λ i j d less within same. apart i j d less within (ap (λ (n : Name). n.row) same) (ap (λ (n : Name). n.tx) same)
