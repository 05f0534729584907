-- What one more token does, in the words of the grammar.
use Rattle.std.proofs.Common.{◌≡◌, ℕ, ◌+◌, ◌<◌, ◌≤◌, true, false, ◌⊎◌, List, [], ◌∷◌, ◌++◌, sym, refl, ap, ◌∙◌, subst, inl, inr, arith}
use Rattle.scan.specs.declared.byte.Shape.TheVariants.{Round, Curly, Square, Angle}
use Rattle.syntax.specs.declared.sign.Keyword.{Keyword}
use Rattle.syntax.specs.declared.sign.Keyword.TheVariants as words
use Rattle.syntax.specs.declared.mode.Frame.{Frame}
use Rattle.syntax.specs.declared.mode.Frame.TheVariants.{First, Later, Content, Digested}
use Rattle.syntax.specs.declared.mode.Mode.{Mode}
use Rattle.syntax.specs.declared.mode.Mode.TheVariants.{Fresh, Kinded, Listing, Owner, Sender, Receiver, Start, AfterName, AfterSealer, AfterKey, After, Sealer, Party, EntryEnd, Done}
use Rattle.syntax.specs.declared.sign.Sign.TheVariants as signs
use Rattle.syntax.specs.Grammar.{sign, Tok, name, keyword, opens, closes, tick, end, stray, Line, line_tokens, Begins, GoesOn}
use Rattle.syntax.specs.Machine.{State, at, stuck, heads, headed, begins, follows, step, run, is_end}
use Rattle.syntax.specs.Machine.{depth}
use Rattle.syntax.specs.Levels.{level, opened, Shallow}
use Rattle.syntax.proofs.Reading.{run_append}
use Rattle.syntax.proofs.Tied.{begins_runs, runs_begins, done_line}
use Rattle.syntax.proofs.Finishing.{Live, some_left, backs, by_name, by_opens, by_closes, by_tick, by_end}
use Rattle.syntax.proofs.Depths.{Levels, run_level}

opened_more : (n : ℕ) (ts : List Tok) (t : Tok) → opened n (ts ++ t ∷ []) ≡ level (opened n ts) t
opened_more n [] t = refl
opened_more n (u ∷ ts) t = opened_more (level n u) ts t

shallow_more : (n : ℕ) (ts : List Tok) (t : Tok) → Shallow n ts → level (opened n ts) t ≤ 64 → Shallow n (ts ++ t ∷ [])
shallow_more n [] t h k = (k, tt)
shallow_more n (u ∷ ts) t h k = (h.0, shallow_more (level n u) ts t h.1 k)

-- one token adds at most one bracket
level_le : (n : ℕ) (t : Tok) → level n t ≤ n + 1
level_le n (name w) = omega arith
level_le n (keyword k) = omega arith
level_le n (opens s) = omega arith
level_le n (closes s) = omega arith
level_le n tick = omega arith
level_le n end = omega arith
level_le n stray = omega arith

-- the end of a line ends the machine
abbrev pub EndsOnly : State → Type 0
EndsOnly s = (m : Mode) (fs : List Frame) → s ≡ at m fs → s ≡ at Done []

stuck_not : EndsOnly stuck
stuck_not = λ m fs e. cc

follows_end : (fs : List Frame) → EndsOnly (follows fs signs.End)
follows_end [] = λ m gs e. refl
follows_end (First ∷ fs) = stuck_not
follows_end (Later ∷ fs) = stuck_not
follows_end (Content ∷ fs) = stuck_not
follows_end (Digested ∷ fs) = stuck_not

pub step_end : (m : Mode) (fs : List Frame) → EndsOnly (step m fs signs.End)
step_end Fresh fs = λ n gs e. refl
step_end Kinded fs = stuck_not
step_end Listing fs = λ n gs e. refl
step_end Owner fs = stuck_not
step_end Sender fs = stuck_not
step_end Receiver fs = stuck_not
step_end Start fs = stuck_not
step_end AfterName fs = follows_end fs
step_end AfterSealer fs = follows_end fs
step_end AfterKey fs = follows_end fs
step_end After fs = follows_end fs
step_end Sealer fs = stuck_not
step_end Party fs = stuck_not
step_end EntryEnd fs = stuck_not
step_end Done fs = stuck_not

-- only the end of a line ends it
abbrev L : Tok → State → Type 0
L t (at n gs) = Live n ⊎ (is_end (sign t) ≡ true)
L t stuck = Unit {0}

begins_live : (fs : List Frame) (t : Tok) → L t (begins fs (sign t))
begins_live fs t = by_name L _ _ t (λ w. inl tt) (by_opens L _ _ Round t (inl tt) (by_opens L _ _ Curly t (inl tt) tt))

follows_live : (fs : List Frame) (t : Tok) → L t (follows fs (sign t))
follows_live [] t = by_end L _ _ t (inr refl) tt
follows_live (First ∷ fs) t = begins_live (Later ∷ fs) t
follows_live (Later ∷ fs) t = by_closes L _ _ Round t (inl tt) (begins_live (Later ∷ fs) t)
follows_live (Content ∷ fs) t = by_closes L _ _ Curly t (inl tt) tt
follows_live (Digested ∷ fs) t = by_closes L _ _ Angle t (inl tt) tt

head_live : (k : Keyword) → L (keyword k) (headed k)
head_live (words.Kind k) = inl tt
head_live words.Own = inl tt
head_live words.Line = inl tt

heads_live : (t : Tok) → L t (heads (sign t))
heads_live (name w) = tt
heads_live (keyword k) = head_live k
heads_live (opens s) = tt
heads_live (closes s) = tt
heads_live tick = tt
heads_live end = inr refl
heads_live stray = tt

step_live : (m : Mode) (fs : List Frame) (t : Tok) → L t (step m fs (sign t))
step_live Fresh fs t = heads_live t
step_live Kinded fs t = by_name L _ _ t (λ w. inl tt) tt
step_live Listing fs t = by_name L _ _ t (λ w. inl tt) (by_end L _ _ t (inr refl) tt)
step_live Owner fs t = by_name L _ _ t (λ w. inl tt) tt
step_live Sender fs t = by_name L _ _ t (λ w. inl tt) tt
step_live Receiver fs t = by_name L _ _ t (λ w. inl tt) tt
step_live Start fs t = begins_live fs t
step_live AfterName fs t = by_opens L _ _ Square t (inl tt) (by_opens L _ _ Angle t (inl tt) (by_tick L _ _ t (inl tt) (follows_live fs t)))
step_live AfterSealer fs t = by_opens L _ _ Square t (inl tt) (by_tick L _ _ t (inl tt) (follows_live fs t))
step_live AfterKey fs t = by_tick L _ _ t (inl tt) (follows_live fs t)
step_live After fs t = follows_live fs t
step_live Sealer fs t = by_name L _ _ t (λ w. inl tt) tt
step_live Party fs t = by_name L _ _ t (λ w. inl tt) tt
step_live EntryEnd fs t = by_closes L _ _ Square t (inl tt) tt
step_live Done fs t = tt

pub still_live : (m : Mode) (fs : List Frame) (t : Tok) (n : Mode) (gs : List Frame) → at n gs ≡ step m fs (sign t) → is_end (sign t) ≡ false → Live n
still_live m fs t n gs e is = go (subst (L t) (sym e) (step_live m fs t))
  where
    go : Live n ⊎ (is_end (sign t) ≡ true) → Live n
    go (inl h) = h
    go (inr h) = cc

module _ (ts : List Tok) (m : Mode) (fs : List Frame) (here : run (at Fresh []) ts ≡ at m fs) (t : Tok) where
  after_one : run (at Fresh []) (ts ++ t ∷ []) ≡ step m fs (sign t)
  after_one = run_append (at Fresh []) ts (t ∷ []) ∙ ap (λ s. run s (t ∷ [])) here

  -- some line begins with what has been read
  pub begun : Live m → GoesOn ts
  begun live =
      let (u, r, f) = some_left m fs live in
      let (l, g) = backs (at Fresh []) ts m fs (u ∷ r) here f in
      (l, u, r, sym g)

  pub outside : step m fs (sign t) ≡ stuck → Begins (ts ++ t ∷ []) → ⊥
  outside e b =
      let (n, gs, h) = begins_runs (ts ++ t ∷ []) b in
      let q = after_one in
      let z : ◌≡◌ {A = ℕ} 0 1 = cc in
      omega arith

  pub opened_here : opened 0 ts ≡ depth (at m fs)
  opened_here = sym (subst (Levels (opened 0 ts)) here (run_level (at Fresh []) ts 0 (refl, refl))).0

  pub opened_next : (n : Mode) (gs : List Frame) → step m fs (sign t) ≡ at n gs → opened 0 (ts ++ t ∷ []) ≡ depth (at n gs)
  opened_next n gs e =
      sym (subst (Levels (opened 0 (ts ++ t ∷ []))) (after_one ∙ e) (run_level (at Fresh []) (ts ++ t ∷ []) 0 (refl, refl))).0

  -- a bracket too many
  pub too_deep : depth (at m fs) ≤ 64 → 64 < depth (step m fs (sign t)) → Begins (ts ++ t ∷ []) × (opened 0 (ts ++ t ∷ []) ≡ 65)
  too_deep low high = go (step m fs (sign t)) refl
    where
      go : (s : State) → step m fs (sign t) ≡ s → Begins (ts ++ t ∷ []) × (opened 0 (ts ++ t ∷ []) ≡ 65)
      go (at n gs) e =
          let a = opened_next n gs e in
          let b = opened_here in
          let c = opened_more 0 ts t in
          let d = level_le (opened 0 ts) t in
          let f = ap depth e in
          (runs_begins (ts ++ t ∷ []) (n, gs, after_one ∙ e), omega arith)
      go stuck e = let f = ap depth e in absurd (omega arith)

  pub onward : (n : Mode) (gs : List Frame) → at n gs ≡ step m fs (sign t) → depth (step m fs (sign t)) ≤ 64 → Shallow 0 ts → (run (at Fresh []) (ts ++ t ∷ []) ≡ at n gs) × Shallow 0 (ts ++ t ∷ [])
  onward n gs e low sh =
      let a = opened_next n gs (sym e) in
      let c = opened_more 0 ts t in
      let f = ap depth e in
      (after_one ∙ sym e, shallow_more 0 ts t sh (omega arith))

  pub whole : (n : Mode) (gs : List Frame) → at n gs ≡ step m fs (sign t) → is_end (sign t) ≡ true → (l : Line) × (line_tokens l ≡ ts ++ t ∷ [])
  whole n gs e is = done_line (ts ++ t ∷ []) [] (after_one ∙ ended t e is)
    where
      ended : (u : Tok) → at n gs ≡ step m fs (sign u) → is_end (sign u) ≡ true → step m fs (sign u) ≡ at Done []
      ended (name w) d i = cc
      ended (keyword k) d i = cc
      ended (opens s) d i = cc
      ended (closes s) d i = cc
      ended tick d i = cc
      ended end d i = step_end m fs n gs (sym d)
      ended stray d i = cc
