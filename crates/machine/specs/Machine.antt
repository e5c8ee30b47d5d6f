-- Lists of calls on any state: which are accepted, the cuts among them, the stretches between cuts, the states to
-- compare, and the match of two lists (list-1 to list-9). The account is a case (`ledger`). No choice matters here.
-- Assumes nothing.
use Rattle.std.specs.Prelude.{◌+◌, ◌≡◌, Bool, cond, ◌&&◌, ◌↔◌, List, [], ◌∷◌, length}

-- list-1: a state with its calls: is a call accepted, what it then makes of the state, is it a cut, and the units that
-- it takes, which can be none and add up
pub record Machine : Type 1 where
  pub State : Type 0
  pub Call : Type 0
  pub Units : Type 0
  pub accepts : State → Call → Bool
  pub after : State → Call → State
  pub is_boundary : Call → Bool
  pub units_of : State → Call → Units
  pub none : Units
  pub plus : Units → Units → Units

-- list-8: an accepted call, with the units that it takes
pub record Event (m : Machine) : Type 0 where
  pub call : m.Call
  pub units : m.Units

-- list-2, order-2: a refused call leaves the state as it was
unfoldable pub step : (m : Machine) → m.State → m.Call → m.State
step m s c = cond (m.accepts s c) (m.after s c) s

-- list-2: each call works on what the one before left
unfoldable pub run : (m : Machine) → m.State → List m.Call → m.State
run m s [] = s
run m s (c ∷ cs) = run m (step m s c) cs

-- list-3: the accepted calls of a list
unfoldable pub accepted : (m : Machine) → m.State → List m.Call → List (Event m)
accepted m s [] = []
accepted m s (c ∷ cs) = cond (m.accepts s c)
    (record { call = c; units = m.units_of s c } ∷ accepted m (step m s c) cs) (accepted m (step m s c) cs)

-- list-5, list-6: the cuts among accepted calls, each as it was called
unfoldable pub boundaries : (m : Machine) → List (Event m) → List m.Call
boundaries m [] = []
boundaries m (e ∷ es) = cond (m.is_boundary e.call) (e.call ∷ boundaries m es) (boundaries m es)

-- list-7, list-8: the units of the first stretch
unfoldable pub first_segment : (m : Machine) → List (Event m) → m.Units
first_segment m [] = m.none
first_segment m (e ∷ es) = cond (m.is_boundary e.call) m.none (m.plus e.units (first_segment m es))

-- list-7, list-8: the units of the stretches after each cut
unfoldable pub later_segments : (m : Machine) → List (Event m) → List m.Units
later_segments m [] = []
later_segments m (e ∷ es) = cond (m.is_boundary e.call)
    (first_segment m es ∷ later_segments m es) (later_segments m es)

-- list-7: the units of all stretches. Law: one more than cuts (`OneMore`)
unfoldable pub segments : (m : Machine) → List (Event m) → List m.Units
segments m es = first_segment m es ∷ later_segments m es

-- list-9: the state just before each accepted cut, and at the end
unfoldable pub snapshots : (m : Machine) → m.State → List m.Call → List m.State
snapshots m s [] = s ∷ []
snapshots m s (c ∷ cs) = cond (m.accepts s c && m.is_boundary c)
    (s ∷ snapshots m (step m s c) cs) (snapshots m (step m s c) cs)

-- list-5: the accepted cuts of a list, in their order
abbrev pub cuts : (m : Machine) → m.State → List m.Call → List m.Call
cuts m s cs = boundaries m (accepted m s cs)

-- list-8: the accepted units of each stretch of a list
abbrev pub stretches : (m : Machine) → m.State → List m.Call → List m.Units
stretches m s cs = segments m (accepted m s cs)

-- list-9, list-6: with the same cuts, all compared states are equal if and only if all stretches are
abbrev pub Matches : (m : Machine) → m.State → m.State → List m.Call → List m.Call → Type 0
Matches m s t xs ys = cuts m s xs ≡ cuts m t ys
    → (snapshots m s xs ≡ snapshots m t ys) ↔ (stretches m s xs ≡ stretches m t ys)

-- list-7: one stretch more than cuts, and a state for each cut and for the end
pub record OneMore (m : Machine) (s : m.State) (cs : List m.Call) : Type 0 where
  pub counted : length (stretches m s cs) ≡ length (cuts m s cs) + 1
  pub compared : length (snapshots m s cs) ≡ length (cuts m s cs) + 1
