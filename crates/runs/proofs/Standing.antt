-- Tasks that fit give slots that stand for the values of their terms, or are stopped by Full.
use Rattle.std.proofs.Common.{◌≡◌, ℕ, ◌+◌, ◌-◌, ◌<◌, ◌≤◌, Bool, true, false, cond, eqb, ◌⊎◌, List, [], ◌∷◌, length, get_or, Some, None, Option, sym, refl, ◌∙◌, subst, inl, inr, arith}
use Rattle.std.proofs.lemmas.Bool.{eqb-true, eqb-false, cases_order}
use Rattle.deduction.specs.Term.{Term}
use Rattle.provider.specs.Algebra.{Algebra}
use Rattle.terms.specs.declared.node.TermNode.{TermNode}
use Rattle.terms.specs.Tree.{tree}
use Rattle.scripts.specs.declared.instruction.Instruction.{Instruction}
use Rattle.scripts.specs.declared.instruction.Instruction.TheVariants.{Given, Fresh, From, To, Recv, Mate, Left, Right, Join, Seal, Digest, Entry, Open, Same, Send}
use Rattle.scripts.specs.declared.instruction.Line.{Line}
use Rattle.scripts.specs.Lines.{op_of, script_of}
use Rattle.rules.specs.State.{nth, name_at}
use Rattle.rules.proofs.Nth.{some_is}
use Rattle.valuation.specs.Fit.{at, terms_of}
use Rattle.parts.specs.Kinds.{Takes}
use Rattle.acting.specs.declared.instruction.Part.{Part}
use Rattle.acting.specs.declared.instruction.Part.TheVariants.{Receive as RECEIVING}
use Rattle.acting.specs.Carrying.{between}
use Rattle.acting.specs.Standing.{StandsFor, Loaded, Standing, Handed, AllHanded, Alone, comparisons}
use Rattle.acting.proofs.Parts.{alone_handed}
use Rattle.protocol.specs.Reading.{AgentName}
use Rattle.protocol.specs.States.{trees}
use Rattle.runs.specs.declared.task.Role.{Role}
use Rattle.runs.specs.declared.task.Role.TheVariants.{Start as STARTS, Send as SENDS, Receive as RECEIVES}
use Rattle.runs.specs.declared.task.Task.{Task}
use Rattle.runs.specs.Memory.{lines_at, base_of}
use Rattle.runs.specs.Tasks.{reading_of, Hands}
use Rattle.runs.proofs.Bases.{own_party, base_above}

-- how far each party's script is done after a task
abbrev pub after : (ℕ → ℕ) → Task → ℕ → ℕ
after E t p = cond (eqb t.party p) t.end (E p)

abbrev pub after_all : (ℕ → ℕ) → List Task → ℕ → ℕ
after_all E [] = E
after_all E (t ∷ us) = after_all (after E t) us

pub after_own : (E : ℕ → ℕ) (t : Task) (p : ℕ) → t.party ≡ p → after E t p ≡ t.end
after_own E t p e = go (eqb t.party p) refl
  where
    go : (b : Bool) → eqb t.party p ≡ b → cond b t.end (E p) ≡ t.end
    go true w = refl
    go false w = absurd (eqb-false t.party p w e)

pub after_other : (E : ℕ → ℕ) (t : Task) (p : ℕ) → (t.party ≡ p → ⊥) → after E t p ≡ E p
after_other E t p d = go (eqb t.party p) refl
  where
    go : (b : Bool) → eqb t.party p ≡ b → cond b t.end (E p) ≡ E p
    go true w = absurd (d (eqb-true t.party p w))
    go false w = refl

module _ (ts : List TermNode) (ps : List (List Line)) where
  -- the lines from a place up to another need nothing handed to them
  abbrev pub AllAlone : List Line → ℕ → ℕ → Type 0
  AllAlone ls start end = (k : ℕ) (l : Line) → start ≤ k → k < end → nth ls k ≡ Some l → Alone l.op

  abbrev pub slot_terms : ℕ → List Term
  slot_terms p = terms_of (script_of (tree ts) (lines_at ps p))

  -- what comes in are the sender's name and the message, which the sender has put into the last slot that it has done
  pub record Receives (E : ℕ → ℕ) (sender sent : ℕ) (ls : List Line) (start end : ℕ) : Type 0 where
    pub who : Term
    pub message : Term
    pub named : name_at (trees ts) sender ≡ Some who
    pub sender_from : 1 ≤ sender
    pub sender_below : sender < length ps
    pub done : sent ≤ E sender
    pub some : 1 ≤ sent
    pub is : at (slot_terms sender) (sent - 1) ≡ message
    pub takes : (k : ℕ) (l : Line) → start ≤ k → k < end → nth ls k ≡ Some l → Takes who message (op_of (tree ts) l.op)

  abbrev pub RoleFits : (ℕ → ℕ) → Role → List Line → ℕ → ℕ → Type 0
  RoleFits E STARTS ls start end = AllAlone ls start end
  RoleFits E SENDS ls start end = AllAlone ls start end
  RoleFits E (RECEIVES a n) ls start end = Receives E a n ls start end

  -- a task fits where scripts are done as far as E says: it is the next part of its party's script, and finds what it is handed
  pub record TaskFits (E : ℕ → ℕ) (t : Task) : Type 0 where
    pub from : 1 ≤ t.party
    pub below : t.party < length ps
    pub ready : E t.party ≡ t.start
    pub order : t.start ≤ t.end
    pub inside : t.end ≤ length (lines_at ps t.party)
    pub role_fits : RoleFits E t.role (lines_at ps t.party) t.start t.end

  abbrev pub AllFit : (ℕ → ℕ) → List Task → Type 0
  AllFit E [] = Unit {0}
  AllFit E (t ∷ us) = TaskFits E t × AllFit (after E t) us

  -- the comparisons of tasks
  abbrev pub sames_in : List Task → ℕ
  sames_in [] = 0
  sames_in (t ∷ us) = comparisons (between t.start t.end (lines_at ps t.party)) + sames_in us

  -- the slots of different parties are apart
  pub slots_apart : (p q : ℕ) → 1 ≤ p → 1 ≤ q → (p ≡ q → ⊥) → (j start end : ℕ) → j < length (lines_at ps p) → end ≤ length (lines_at ps q)
      → (base_of ps p + j < base_of ps q + start) ⊎ (base_of ps q + end ≤ base_of ps p + j)
  slots_apart p q u v d j start end l h = go (cases_order p q)
    where
      go : (p ≡ q) ⊎ ((p < q) ⊎ (q < p)) → (base_of ps p + j < base_of ps q + start) ⊎ (base_of ps q + end ≤ base_of ps p + j)
      go (inl e) = absurd (d e)
      go (inr (inl k)) = let a = base_above ps p q k in let b = own_party ps p u in inl (omega arith)
      go (inr (inr k)) = let a = base_above ps q p k in let b = own_party ps q v in inr (omega arith)

  module _ {X : Type 0} (f : Algebra X) (is : List (ℕ × X)) where
    abbrev T : ℕ → Term
    T = tree ts

    -- the party's slots up to a place stand for the values of their terms
    abbrev pub PartyStands : ℕ → ℕ → List ℕ → Type 0
    PartyStands p n slots = Standing f is (slot_terms p) (base_of ps p) slots n

    -- every slot done so far stands for the value of its term
    abbrev pub AllStand : (ℕ → ℕ) → List ℕ → Type 0
    AllStand E slots = (p : ℕ) → 1 ≤ p → p < length ps → (E p ≤ length (lines_at ps p)) × PartyStands p (E p) slots

    takes_handed : (who message : Term) (h g : ℕ) → StandsFor f is h who → StandsFor f is g message → (op : Instruction) → Takes who message (op_of T op) → Handed f is T (RECEIVING h g) op
    takes_handed who message h g a b (Given t) w = tt
    takes_handed who message h g a b (Fresh t) w = tt
    takes_handed who message h g a b (From t) w = (h, refl, rw w a)
    takes_handed who message h g a b (To t) w = w
    takes_handed who message h g a b (Recv t) w = (g, refl, rw w b)
    takes_handed who message h g a b (Mate i) w = tt
    takes_handed who message h g a b (Left i) w = tt
    takes_handed who message h g a b (Right i) w = tt
    takes_handed who message h g a b (Join i j) w = tt
    takes_handed who message h g a b (Seal i j) w = tt
    takes_handed who message h g a b (Digest i j) w = tt
    takes_handed who message h g a b (Entry i j) w = tt
    takes_handed who message h g a b (Open i j) w = tt
    takes_handed who message h g a b (Same i j) w = tt
    takes_handed who message h g a b (Send i j) w = tt

    module _ (readings : List ℕ) (loaded : Loaded f is T (length ts) readings) where
      -- the reading of a party's name stands for it
      name_stands : (p : ℕ) (who : Term) (o : Option ℕ) (h : ℕ) → name_at (trees ts) p ≡ Some who → AgentName ts p o → h ≡ reading_of readings o → StandsFor f is h who
      name_stands p who None h e w d = let z : ◌≡◌ {A = ℕ} 0 1 = cc in absurd (omega arith)
      name_stands p who (Some i) h e w d = let q : T i ≡ who = some_is (sym w.1 ∙ e) in rw d (subst (StandsFor f is (get_or readings i 0)) q (loaded i w.0))

      -- a task is handed what its lines name
      pub role_handed : (E : ℕ → ℕ) (slots : List ℕ) → AllStand E slots → (r : Role) (part : Part) (ls : List Line) (start end : ℕ) → RoleFits E r ls start end → Hands ts ps readings slots r part
          → AllHanded f is T part ls start end
      role_handed E slots env STARTS part ls start end fit h k l u v e = alone_handed f is T part l.op (fit k l u v e)
      role_handed E slots env SENDS part ls start end fit h k l u v e = alone_handed f is T part l.op (fit k l u v e)
      role_handed E slots env (RECEIVES a n) part ls start end fit h k l u v e =
          let w = name_stands a fit.who h.1.0 h.0 fit.named h.1.1 h.1.2 in
          let low : n - 1 < E a = omega (arith, fit.done, fit.some) in
          let sent : StandsFor f is (get_or slots (base_of ps a + (n - 1)) 0) fit.message = subst (StandsFor f is (get_or slots (base_of ps a + (n - 1)) 0)) fit.is ((env a fit.sender_from fit.sender_below).1 (n - 1) low) in
          rw h.2 (takes_handed fit.who fit.message h.0 (get_or slots (base_of ps a + (n - 1)) 0) w sent l.op (fit.takes k l u v e))
