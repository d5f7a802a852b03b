-- What contracts see of a piece that was read ahead. This project's own.
use Rattle.std.specs.Prelude.{ℕ, List, refl}
use Rattle.std.specs.Coded.{Coded, code_by, coded×, coded_ℕ, coded_list}

-- the place of a piece, and its bytes
pub record WindowState : Type 0 where
  pub at : ℕ
  pub held : List ℕ

-- it is stored as the pair of its fields
abbrev pub window_code : Coded WindowState
window_code = code_by (ℕ × List ℕ) (coded× coded_ℕ (coded_list coded_ℕ)) (λ w. (w.at, w.held)) (λ p. record { at = p.0; held = p.1 }) (λ _. refl)

-- how many bytes are read ahead at most
abbrev pub ahead : ℕ
ahead = 65536
