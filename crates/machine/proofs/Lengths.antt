-- A list has one stretch more than cuts, and as many states to compare, the last of which is the one that it leads to. Assumes nothing.
use Prim.Native.Nat.{suc, ◌+◌}
use mathlib.Core.Path.{◌≡◌, refl, ap}
use mathlib.Core.Bool.{Bool, true, false, cond, ◌&&◌}
use mathlib.Core.List.{List, [], ◌∷◌}
use native.Mathlib.Omega.{arith}
use lib.ListN.{length, get_or}
use Rattle.machine.specs.Machine.{Machine, Event, step, run, accepted, boundaries, first_segment, later_segments, segments, snapshots, cuts, OneMore}

module _ (m : Machine) where
  pub later_lengths : (es : List (Event m)) → length (later_segments m es) ≡ length (boundaries m es)
  unfolding later_segments boundaries
  later_lengths [] = refl
  later_lengths (e ∷ es) = go (m.is_boundary e.call) (later_lengths es)
    where
      go : (b : Bool) → length (later_segments m es) ≡ length (boundaries m es)
          → length (cond b (first_segment m es ∷ later_segments m es) (later_segments m es)) ≡ length (cond b (e.call ∷ boundaries m es) (boundaries m es))
      go true h = ap suc h
      go false h = h

  snapshot_lengths : (s : m.State) (cs : List m.Call) → length (snapshots m s cs) ≡ length (boundaries m (accepted m s cs)) + 1
  unfolding snapshots accepted boundaries
  snapshot_lengths s [] = refl
  snapshot_lengths s (c ∷ cs) = go (m.accepts s c) (m.is_boundary c) refl (snapshot_lengths (step m s c) cs)
    where
      go : (p q : Bool) → m.is_boundary c ≡ q → length (snapshots m (step m s c) cs) ≡ length (boundaries m (accepted m (step m s c) cs)) + 1
          → length (cond (p && q) (s ∷ snapshots m (step m s c) cs) (snapshots m (step m s c) cs))
          ≡ length (boundaries m (cond p (record { call = c; units = m.units_of s c } ∷ accepted m (step m s c) cs) (accepted m (step m s c) cs))) + 1
      go false q e h = h
      go true true e h = rw e (omega (arith, h))
      go true false e h = rw e h

  pub one_more : (s : m.State) (cs : List m.Call) → OneMore m s cs
  unfolding segments
  one_more s cs = record { counted = omega (arith, later_lengths (accepted m s cs)); compared = snapshot_lengths s cs }

  -- call by call: a cut puts its state in front, and every other call leaves both lists as they are
  pub end_is_last : (s t : m.State) (cs : List m.Call) → get_or (snapshots m s cs) (length (cuts m s cs)) t ≡ run m s cs
  unfolding run snapshots accepted boundaries
  end_is_last s t [] = refl
  end_is_last s t (c ∷ cs) = go (m.accepts s c) (m.is_boundary c) refl (end_is_last (step m s c) t cs)
    where
      go : (p q : Bool) → m.is_boundary c ≡ q
          → get_or (snapshots m (step m s c) cs) (length (cuts m (step m s c) cs)) t ≡ run m (step m s c) cs
          → get_or (cond (p && q) (s ∷ snapshots m (step m s c) cs) (snapshots m (step m s c) cs))
          (length (boundaries m (cond p (record { call = c; units = m.units_of s c } ∷ accepted m (step m s c) cs) (accepted m (step m s c) cs)))) t
          ≡ run m (step m s c) cs
      go false q e h = h
      go true true e h = rw e h
      go true false e h = rw e h
