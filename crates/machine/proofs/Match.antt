-- Two lists of calls with the same cuts show the same states exactly when their stretches have the same units: for any machine that keeps the laws of
-- `Lawful`. Assumes nothing.
use mathlib.Core.Path.{◌≡◌, refl, sym, ◌∙◌, ap}
use mathlib.Core.Bool.{Bool, true, false, cond}
use mathlib.Core.List.{List, [], ◌∷◌}
use native.Mathlib.Omega.{arith}
use lib.ListN.{length}
use Rattle.machine.specs.Machine.{Machine, Event, step, accepted, boundaries, first_segment, later_segments, segments, snapshots, Matches}
use Rattle.machine.proofs.Lengths.{later_lengths}

-- What the match rests on. `absorb` takes a stretch's units at once; `Good` is kept by calls and by units; `Fits` holds of units that accepted calls take.
pub record Lawful (m : Machine) : Type 1 where
  pub Good : m.State → Type 0
  pub Fits : m.Units → Type 0
  pub absorb : m.State → m.Units → m.State
  pub good_after : (s : m.State) (c : m.Call) → Good s → Good (m.after s c)
  pub good_absorb : (s : m.State) (u : m.Units) → Good s → Good (absorb s u)
  pub fits_none : Fits m.none
  pub fits_plus : (u v : m.Units) → Fits u → Fits v → Fits (m.plus u v)
  pub fits_call : (s : m.State) (c : m.Call) → Good s → m.accepts s c ≡ true → Fits (m.units_of s c)
  pub absorb_none : (s : m.State) → absorb s m.none ≡ s
  pub absorb_plus : (s : m.State) (u v : m.Units) → Good s → Fits u → Fits v → absorb (absorb s u) v ≡ absorb s (m.plus u v)
  pub absorb_call : (s : m.State) (c : m.Call) → Good s → m.accepts s c ≡ true → m.is_boundary c ≡ false → m.after s c ≡ absorb s (m.units_of s c)
  pub absorb_tells : (s : m.State) (u v : m.Units) → Good s → Fits u → Fits v → absorb s u ≡ absorb s v → u ≡ v

-- P holds of every element
abbrev Every : {A : Type 0} → (A → Type 0) → List A → Type 0
Every P [] = Unit {0}
Every P (x ∷ xs) = P x × Every P xs

module _ (m : Machine) (l : Lawful m) where
  -- the states of `snapshots`, from the cuts and the units of the stretches alone
  replay : m.State → m.Units → List m.Call → List m.Units → List m.State
  replay s u [] vs = l.absorb s u ∷ []
  replay s u (k ∷ ks) [] = l.absorb s u ∷ []
  replay s u (k ∷ ks) (v ∷ vs) = l.absorb s u ∷ replay (m.after (l.absorb s u) k) v ks vs

  replay_absorb : (s : m.State) (u v : m.Units) (ks : List m.Call) (vs : List m.Units) → l.Good s → l.Fits u → l.Fits v
      → replay (l.absorb s u) v ks vs ≡ replay s (m.plus u v) ks vs
  unfolding replay
  replay_absorb s u v [] vs g f h = rw (l.absorb_plus s u v g f h)
  replay_absorb s u v (k ∷ ks) [] g f h = rw (l.absorb_plus s u v g f h)
  replay_absorb s u v (k ∷ ks) (x ∷ vs) g f h = rw (l.absorb_plus s u v g f h)

  abbrev event : m.State → m.Call → Event m
  event s c = record { call = c; units = m.units_of s c }

  -- one call of a list
  accepted_no : (s : m.State) (c : m.Call) (cs : List m.Call) → m.accepts s c ≡ false → accepted m s (c ∷ cs) ≡ accepted m s cs
  unfolding accepted step
  accepted_no s c cs e = rw e

  accepted_yes : (s : m.State) (c : m.Call) (cs : List m.Call) → m.accepts s c ≡ true
      → accepted m s (c ∷ cs) ≡ record { call = c; units = m.units_of s c } ∷ accepted m (m.after s c) cs
  unfolding accepted step
  accepted_yes s c cs e = rw e

  snapshots_no : (s : m.State) (c : m.Call) (cs : List m.Call) → m.accepts s c ≡ false → snapshots m s (c ∷ cs) ≡ snapshots m s cs
  unfolding snapshots step
  snapshots_no s c cs e = rw e

  snapshots_cut : (s : m.State) (c : m.Call) (cs : List m.Call) → m.accepts s c ≡ true → m.is_boundary c ≡ true → snapshots m s (c ∷ cs) ≡ s ∷ snapshots m (m.after s c) cs
  unfolding snapshots step
  snapshots_cut s c cs e f = rw (e, f)

  snapshots_use : (s : m.State) (c : m.Call) (cs : List m.Call) → m.accepts s c ≡ true → m.is_boundary c ≡ false → snapshots m s (c ∷ cs) ≡ snapshots m (m.after s c) cs
  unfolding snapshots step
  snapshots_use s c cs e f = rw (e, f)

  -- the units of accepted calls, and so of the stretches, fit
  abbrev AllFit : List (Event m) → Type 0
  AllFit es = Every (λ (e : Event m). l.Fits e.units) es

  fits_accepted : (s : m.State) (cs : List m.Call) → l.Good s → AllFit (accepted m s cs)
  unfolding accepted step
  fits_accepted s [] g = tt
  fits_accepted s (c ∷ cs) g = go (m.accepts s c) refl (λ t h. fits_accepted t cs h)
    where
      go : (b : Bool) → m.accepts s c ≡ b → ((t : m.State) → l.Good t → AllFit (accepted m t cs))
          → AllFit (cond b (record { call = c; units = m.units_of s c } ∷ accepted m (cond b (m.after s c) s) cs) (accepted m (cond b (m.after s c) s) cs))
      go true e ih = (l.fits_call s c g e, ih (m.after s c) (l.good_after s c g))
      go false e ih = ih s g

  fits_first : (es : List (Event m)) → AllFit es → l.Fits (first_segment m es)
  unfolding first_segment
  fits_first [] f = l.fits_none
  fits_first (e ∷ es) f = go (m.is_boundary e.call) (fits_first es f.1)
    where
      go : (b : Bool) → l.Fits (first_segment m es) → l.Fits (cond b m.none (m.plus e.units (first_segment m es)))
      go true h = l.fits_none
      go false h = l.fits_plus e.units (first_segment m es) f.0 h

  fits_later : (es : List (Event m)) → AllFit es → Every l.Fits (later_segments m es)
  unfolding later_segments
  fits_later [] f = tt
  fits_later (e ∷ es) f = go (m.is_boundary e.call) (fits_later es f.1)
    where
      go : (b : Bool) → Every l.Fits (later_segments m es) → Every l.Fits (cond b (first_segment m es ∷ later_segments m es) (later_segments m es))
      go true h = (fits_first es f.1, h)
      go false h = h

  replayed : m.State → List (Event m) → List m.State
  replayed s es = replay s (first_segment m es) (boundaries m es) (later_segments m es)

  replayed_cut : (s : m.State) (e : Event m) (es : List (Event m)) → m.is_boundary e.call ≡ true → replayed s (e ∷ es) ≡ s ∷ replayed (m.after s e.call) es
  unfolding replayed first_segment boundaries later_segments replay
  replayed_cut s e es f = rw (f, l.absorb_none)

  replayed_use : (s : m.State) (e : Event m) (es : List (Event m)) → l.Good s → l.Fits e.units → AllFit es → m.is_boundary e.call ≡ false
      → replayed s (e ∷ es) ≡ replayed (l.absorb s e.units) es
  unfolding replayed first_segment boundaries later_segments
  replayed_use s e es g h a f = rw f (sym (replay_absorb s e.units (first_segment m es) (boundaries m es) (later_segments m es) g h (fits_first es a)))

  snapshots_none : (s : m.State) → snapshots m s [] ≡ replayed s (accepted m s [])
  unfolding snapshots accepted replayed first_segment boundaries later_segments replay
  snapshots_none s = rw l.absorb_none

  snapshots_replayed : (s : m.State) (cs : List m.Call) → l.Good s → snapshots m s cs ≡ replayed s (accepted m s cs)
  snapshots_replayed s [] g = snapshots_none s
  snapshots_replayed s (c ∷ cs) g = go (m.accepts s c) refl (m.is_boundary c) refl (λ t h. snapshots_replayed t cs h)
    where
      go : (b : Bool) → m.accepts s c ≡ b → (d : Bool) → m.is_boundary c ≡ d → ((t : m.State) → l.Good t → snapshots m t cs ≡ replayed t (accepted m t cs))
          → snapshots m s (c ∷ cs) ≡ replayed s (accepted m s (c ∷ cs))
      go false e d f ih = rw (snapshots_no s c cs e, accepted_no s c cs e) (ih s g)
      go true e true f ih = rw (snapshots_cut s c cs e f, accepted_yes s c cs e, replayed_cut s (event s c) (accepted m (m.after s c) cs) f, ih (m.after s c) (l.good_after s c g))
      go true e false f ih =
          rw (snapshots_use s c cs e f, accepted_yes s c cs e, replayed_use s (event s c) (accepted m (m.after s c) cs) g (l.fits_call s c g e) (fits_accepted (m.after s c) cs (l.good_after s c g)) f, ← l.absorb_call s c g e f)
          (ih (m.after s c) (l.good_after s c g))

  -- the states of `snapshots` tell the units of every stretch
  replay_inj : (s : m.State) (u v : m.Units) (ks : List m.Call) (us vs : List m.Units) → l.Good s → l.Fits u → l.Fits v → Every l.Fits us → Every l.Fits vs
      → length us ≡ length ks → length vs ≡ length ks → replay s u ks us ≡ replay s v ks vs → u ∷ us ≡ v ∷ vs
  unfolding replay
  replay_inj s u v [] [] [] g f h fs hs p q e = ap (λ (x : m.Units). x ∷ []) (l.absorb_tells s u v g f h (cc))
  replay_inj s u v [] [] (y ∷ vs) g f h fs hs p q e = absurd (omega arith)
  replay_inj s u v [] (x ∷ us) vs g f h fs hs p q e = absurd (omega arith)
  replay_inj s u v (k ∷ ks) [] vs g f h fs hs p q e = absurd (omega arith)
  replay_inj s u v (k ∷ ks) (x ∷ us) [] g f h fs hs p q e = absurd (omega arith)
  replay_inj s u v (k ∷ ks) (x ∷ us) (y ∷ vs) g f h fs hs p q e =
      let i : u ≡ v = l.absorb_tells s u v g f h (cc) in
      let t : x ∷ us ≡ y ∷ vs = replay_inj (m.after (l.absorb s u) k) x y ks us vs (l.good_after _ k (l.good_absorb s u g)) fs.0 hs.0 fs.1 hs.1
      (omega arith) (omega arith) (cc) in
      cc

  -- the match of two lists from one state
  pub matching : (s : m.State) → l.Good s → (xs ys : List m.Call) → Matches m s s xs ys
  unfolding segments replayed
  matching s g xs ys e = (there, back)
    where
      there : snapshots m s xs ≡ snapshots m s ys → segments m (accepted m s xs) ≡ segments m (accepted m s ys)
      there q = replay_inj s _ _ (boundaries m (accepted m s xs)) _ _ g
          (fits_first _ (fits_accepted s xs g)) (fits_first _ (fits_accepted s ys g)) (fits_later _ (fits_accepted s xs g)) (fits_later _ (fits_accepted s ys g))
          (later_lengths m (accepted m s xs)) (rw e (later_lengths m (accepted m s ys)))
          (sym (snapshots_replayed s xs g) ∙ q ∙ rw e (snapshots_replayed s ys g))

      back : segments m (accepted m s xs) ≡ segments m (accepted m s ys) → snapshots m s xs ≡ snapshots m s ys
      back q = rw (snapshots_replayed s xs g, snapshots_replayed s ys g)
          (let h : first_segment m (accepted m s xs) ≡ first_segment m (accepted m s ys) = cc in
          let t : later_segments m (accepted m s xs) ≡ later_segments m (accepted m s ys) = cc in
          rw (e, h, t))
