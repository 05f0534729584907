-- Making calls one after the other.
use Rattle.std.proofs.Common.{Result, ◌≡◌, ℕ, zero, suc, ◌+◌, ◌<◌, ◌≤◌, List, [], ◌∷◌, ◌++◌, length, get_or, take, drop, set, sym, refl, ap, ◌∙◌, subst, ap₂, add-one, arith, length-set, length-take-le, take_all, drop-drop}
use Rattle.std.proofs.lemmas.List.{take_more, take_more_set}
use Rattle.rules.specs.State.{blank, perform}
use Rattle.rules.specs.History.{History, Came, AnsweredRight}
use Rattle.rules.specs.Theorems.{MissingTold}
use Rattle.rules.proofs.Law.{answers_are_right_lem, missing_is_named}
use Rattle.protocol.specs.declared.call.Call.{Call}
use Rattle.protocol.specs.declared.call.Reply.{Reply}
use Rattle.protocol.specs.declared.refusal.Refusal.{Refusal}
use Rattle.protocol.specs.declared.protocol.Protocol.{Protocol}
use Rattle.protocol.specs.Outcome.{call_of, Performed}
use Rattle.protocol.specs.View.{view_of}
use Rattle.compiled.specs.Histories.{told_by, history_after, history_of, AllRight, Performs}
use Rattle.compiled.proofs.Telling.{told_is}

history_more : (past : History) (cs : List Call) (rs : List (Result Reply Refusal)) (c : Call) (r : Result Reply Refusal) → length cs ≡ length rs
    → history_after past (cs ++ (c ∷ [])) (rs ++ (r ∷ [])) ≡ told_by c r ∷ history_after past cs rs
history_more past [] [] c r e = refl
history_more past [] (y ∷ rs) c r e = absurd (omega arith)
history_more past (x ∷ cs) [] c r e = absurd (omega arith)
history_more past (x ∷ cs) (y ∷ rs) c r e = history_more (told_by x y ∷ past) cs rs c r (omega arith)

set_past : {A : Type 0} (xs : List A) (i : ℕ) (x : A) → drop (suc i) (set xs i x) ≡ drop (suc i) xs
set_past [] i x = refl
set_past (y ∷ xs) zero x = refl
set_past (y ∷ xs) (suc i) x = set_past xs i x

drop_set : {A : Type 0} (xs : List A) (i : ℕ) (x : A) → drop (i + 1) (set xs i x) ≡ drop (i + 1) xs
drop_set xs i x = rw add-one (set_past xs i x)

drop_later : {A : Type 0} (i : ℕ) (xs ys : List A) → drop i xs ≡ drop i ys → drop (i + 1) xs ≡ drop (i + 1) ys
drop_later i xs ys e = sym (drop-drop 1 i xs) ∙ (ap (drop 1) e ∙ drop-drop 1 i ys)

-- after n calls
pub record MadeUpTo (calls : List Call) (answers₀ : List (Result Reply Refusal)) (n : ℕ) (p : Protocol) (answers : List (Result Reply Refusal)) : Type 0 where
  pub came : Came (history_of (take n calls) (take n answers)) (view_of p)
  pub right : AllRight (history_of (take n calls) (take n answers))
  pub rest : drop n answers ≡ drop n answers₀
  pub long : length answers ≡ length answers₀

pub made_none : (calls : List Call) (answers : List (Result Reply Refusal)) (p : Protocol) → view_of p ≡ blank → MadeUpTo calls answers 0 p answers
made_none calls answers p e = record { came = e; right = tt; rest = refl; long = refl }

module _ (calls : List Call) (answers₀ : List (Result Reply Refusal)) (n : ℕ) (p p' : Protocol) (answers : List (Result Reply Refusal)) (d : Call) (a : Result Reply Refusal) (ln : n < length calls) (few : length calls ≤ length answers₀)
    (done : MadeUpTo calls answers₀ n p answers) (performed : Performed (view_of p) (call_of (get_or calls n d)) a (view_of p')) where
  abbrev c : Call
  c = get_or calls n d

  la : n < length answers
  la = omega (arith, ln, few, done.long)

  abbrev past : History
  past = history_of (take n calls) (take n answers)

  told : (perform (view_of p) (call_of c)).told ≡ told_by c a
  told = told_is (view_of p) (view_of p') c a performed

  next : history_of (take (n + 1) calls) (take (n + 1) (set answers n a)) ≡ told_by c a ∷ past
  next =
      ap₂ history_of (take_more calls n d ln) (take_more_set answers n a la)
      ∙ history_more [] (take n calls) (take n answers) c a (omega (arith, length-take-le n calls (omega (arith, ln)), length-take-le n answers (omega (arith, la))))

  pub made_more : MadeUpTo calls answers₀ (n + 1) p' (set answers n a)
  made_more = record {
    came = subst (λ h. Came h (view_of p')) (sym next) (view_of p, done.came, (call_of c, told, sym performed.after));
    right = subst AllRight (sym next) ((subst (AnsweredRight past) told (answers_are_right_lem past (view_of p) done.came (call_of c)), subst (MissingTold past) told (missing_is_named past (view_of p) done.came (call_of c))), done.right);
    rest = drop_set answers n a ∙ drop_later n answers answers₀ done.rest;
    long = length-set answers n a ∙ done.long;
  }

pub made_all : (calls : List Call) (answers₀ : List (Result Reply Refusal)) (n : ℕ) (p : Protocol) (answers : List (Result Reply Refusal)) → n ≡ length calls → MadeUpTo calls answers₀ n p answers → Performs calls answers₀ p answers
made_all calls answers₀ n p answers e d =
    let d' : MadeUpTo calls answers₀ (length calls) p answers = subst (λ m. MadeUpTo calls answers₀ m p answers) e d in
    let q : take (length calls) calls ≡ calls = take_all (length calls) calls (omega arith) in
    record {
      came = subst (λ cs. Came (history_of cs (take (length calls) answers)) (view_of p)) q d'.came;
      right = subst (λ cs. AllRight (history_of cs (take (length calls) answers))) q d'.right;
      rest = d'.rest;
      long = d'.long;
    }
