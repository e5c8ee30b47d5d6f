-- That Afford may look at one kind's figures alone (afford-1, use-13). No choice matters here. Assumes nothing.
use Rattle.std.specs.Prelude.{ℕ, ◌+◌, ◌≤◌, ◌≡◌, true}
use Rattle.tariff.specs.declared.Kind.{Kind}
use Rattle.tariff.specs.Units.{only}
use Rattle.state.specs.declared.State.{State}
use Rattle.state.specs.Sound.{charges_sound}
use Rattle.state.specs.Use.{cost}
use Rattle.quotes.specs.Quotes.{quoted, quote_of}

-- afford-1, use-13: what c units of one kind cost is what the kind's own figures come to with them, less what they come
-- to without
abbrev pub OneKindsCost : Type 0
OneKindsCost = (a : State) (k : Kind) (c : ℕ) → charges_sound a ≡ true → c ≤ 1000000000
    → cost a (only k c) + quoted (quote_of a k) 0 ≡ quoted (quote_of a k) c
