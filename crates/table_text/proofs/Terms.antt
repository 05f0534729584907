-- The tokens that a term begins with say which term it is.
use Rattle.std.proofs.Common.{◌≡◌, ℕ, ◌≤◌, Bool, true, false, cond, List, [], ◌∷◌, Ok, Err, Result, Some, OnOk, refl, sym, ap, ◌∙◌, subst, arith}
use Rattle.scan.specs.declared.byte.Shape.TheVariants.{Round, Curly, Square, Angle}
use Rattle.std.specs.Prelude.{codes}
use Rattle.std.specs.Str.{bytes_eq}
use Rattle.terms.specs.declared.node.Kind.TheVariants.{Party, Number, Shared, Public, Table, Function}
use Rattle.scan.specs.Tokens.{Lexeme}
use Rattle.rules.specs.State.{State}
use Rattle.syntax.specs.declared.sign.Keyword.TheVariants.{Kind, Own, Line}
use Rattle.syntax.specs.declared.sign.Sign.TheVariants as signs
use Rattle.syntax.specs.Grammar.{Tok, sign, name, keyword, opens, closes, tick, end, stray, Key, named, entry, mate, Term, key, tuple, sealed, digest, Parts, final, more, key_tokens, term_tokens, part_tokens}
use Rattle.syntax.specs.Words.{of_word, may_be_name, tok}
use Rattle.protocol.specs.declared.refusal.Refusal.{Refusal}
use Rattle.table_text.specs.Ahead.{Ahead, Apart, Roomy, parts_terms, key_name, key_rest, each_tokens}
use Rattle.table_text.specs.Calls.{Known, Is, Then, on, ended, Made, AllMade, KeyMade, Builds, DIGEST, number_in}
use Rattle.table_text.specs.Collected.{EachMade, TupleMade, SealedMade}
use Rattle.table_text.specs.Openings.{IsFirst, Opened}
use Rattle.table_text.specs.declared.term.Opening.{Opening}
use Rattle.table_text.specs.declared.term.Opening.TheVariants.{Tuple, Sealed, Name}

pub roomy_on : (text parts : List ℕ) (p q : ℕ) → Roomy text parts p → p ≤ q → Roomy text parts q
roomy_on text parts p q m h = (m.0, omega (arith, m.1))

pub held : {A P : Type 0} (r : Result A Refusal) → P → OnOk r P
held (Ok a) h = h
held (Err e) h = tt

pub key_begins : (k : Key) (ts : List Tok) → key_tokens k ts ≡ name (key_name k) ∷ key_rest k ts
key_begins (named n) ts = refl
key_begins (entry t a) ts = refl
key_begins (mate k) ts = key_begins k (tick ∷ ts)

-- what the next token is, in an equal text
pub moved : (text text' : List ℕ) (p q : ℕ) (F : Tok → Type 0) → text' ≡ text → ((x : Tok) (xs : List Tok) → Ahead text' p (x ∷ xs) → F x × Ahead text' q xs)
    → (x : Tok) (xs : List Tok) → Ahead text p (x ∷ xs) → F x × Ahead text q xs
moved text text' p q F e h = subst (λ (z : List ℕ). (x : Tok) (xs : List Tok) → Ahead z p (x ∷ xs) → F x × Ahead z q xs) e h

-- the bracket that ends a part is read, and the others come next
pub closed : (text text' : List ℕ) (p q : ℕ) (l : Lexeme) (x : Tok) (xs : List Tok) → text' ≡ text
    → ((y : Tok) (ys : List Tok) → Ahead text' p (y ∷ ys) → (y ≡ tok l) × Ahead text' q ys) → Ahead text p (x ∷ xs) → Ahead text q xs
closed text text' p q l x xs e h a = (moved text text' p q (λ y. y ≡ tok l) e h x xs a).1

-- the name of a key is read, and the rest of the key comes next
pub key_named : (ds : Known) (text text' : List ℕ) (p q n : ℕ) (k : Key) (ts : List Tok) → text' ≡ text
    → ((w : List ℕ) (xs : List Tok) → Ahead text' p (name w ∷ xs) → (n ≡ number_in ds w) × Ahead text' q xs) → Ahead text p (key_tokens k ts)
    → (n ≡ number_in ds (key_name k)) × Ahead text q (key_rest k ts)
key_named ds text text' p q n k ts e h a =
    subst (λ (z : List ℕ). (w : List ℕ) (xs : List Tok) → Ahead z p (name w ∷ xs) → (n ≡ number_in ds w) × Ahead z q xs) e h (key_name k) (key_rest k ts) (rw (key_begins k ts) at a)

-- the first token of a term, and the others
pub record Begun (t : Term) (ts : List Tok) : Type 0 where
  pub head : Tok
  pub tail : List Tok
  pub is : term_tokens t ts ≡ head ∷ tail
  pub starts : IsFirst head

pub begins : (t : Term) (ts : List Tok) → Begun t ts
begins (key k) ts = record { head = name (key_name k); tail = key_rest k ts; is = key_begins k ts; starts = tt }
begins (tuple u ps) ts = record { head = opens Round; tail = term_tokens u (part_tokens ps ts); is = refl; starts = tt }
begins (sealed u k) ts = record { head = opens Curly; tail = term_tokens u (closes Curly ∷ key_tokens k ts); is = refl; starts = tt }
begins (digest f u) ts = record { head = name f; tail = opens Angle ∷ term_tokens u (closes Angle ∷ ts); is = refl; starts = tt }

first_apart : (x : Tok) → IsFirst x → parts_terms x
first_apart (name w) h = tt
first_apart (keyword k) h = tt
first_apart (opens Round) h = tt
first_apart (opens Curly) h = tt
first_apart (opens Square) h = h
first_apart (opens Angle) h = h
first_apart (closes s) h = tt
first_apart tick h = h
first_apart end h = tt
first_apart stray h = tt

pub each_apart : (us : List Term) (ts : List Tok) → Apart (each_tokens us ts)
each_apart [] ts = tt
each_apart (u ∷ us) ts = let b = begins u (each_tokens us ts) in rw b.is (first_apart b.head b.starts)

-- what a word can be
abbrev may_be : List ℕ → Tok → Type 0
may_be w (name v) = v ≡ w
may_be w (keyword k) = Unit {0}
may_be w (opens s) = ⊥
may_be w (closes s) = ⊥
may_be w tick = ⊥
may_be w end = ⊥
may_be w stray = Unit {0}

chosen : (w : List ℕ) (b : Bool) (x y : Tok) → may_be w x → may_be w y → may_be w (cond b x y)
chosen w true x y h k = h
chosen w false x y h k = k

word_may_be : (w : List ℕ) → may_be w (of_word w)
word_may_be w =
    chosen w (bytes_eq w (codes "party")) (keyword (Kind Party)) _ tt
    (chosen w (bytes_eq w (codes "number")) (keyword (Kind Number)) _ tt
    (chosen w (bytes_eq w (codes "shared")) (keyword (Kind Shared)) _ tt
    (chosen w (bytes_eq w (codes "public")) (keyword (Kind Public)) _ tt
    (chosen w (bytes_eq w (codes "table")) (keyword (Kind Table)) _ tt
    (chosen w (bytes_eq w (codes "function")) (keyword (Kind Function)) _ tt
    (chosen w (bytes_eq w (codes "own")) (keyword Own) _ tt
    (chosen w (bytes_eq w (codes "line")) (keyword Line) _ tt
    (chosen w (may_be_name w) (name w) stray refl tt))))))))

-- no term begins with the bracket that ends a tuple
pub no_end : (o : Opening) → Opened (Some o) (closes Round) → ⊥
no_end Tuple e = cc
no_end Sealed e = cc
no_end (Name w) e = subst (may_be w.now) (sym e) (word_may_be w.now)

-- a word that begins a term is a name
pub word_begins : (w : List ℕ) (t : Term) (rest ts : List Tok) → of_word w ∷ rest ≡ term_tokens t ts → name w ∷ rest ≡ term_tokens t ts
word_begins w (key k) rest ts e =
    let i : of_word w ≡ name (key_name k) = cc (key_begins k ts) in
    let j : key_name k ≡ w = subst (may_be w) i (word_may_be w) in
    cc j
word_begins w (tuple u ps) rest ts e = let i : of_word w ≡ opens Round = cc in absurd (subst (may_be w) i (word_may_be w))
word_begins w (sealed u k) rest ts e = let i : of_word w ≡ opens Curly = cc in absurd (subst (may_be w) i (word_may_be w))
word_begins w (digest f u) rest ts e =
    let i : of_word w ≡ name f = cc in
    let j : f ≡ w = subst (may_be w) i (word_may_be w) in
    cc

-- the parts of a tuple after its first
abbrev others : Parts → List Term
others (final t) = t ∷ []
others (more t ps) = t ∷ others ps

parts_each : (ps : Parts) (ts : List Tok) → part_tokens ps ts ≡ each_tokens (others ps) ts
parts_each (final t) ts = refl
parts_each (more t ps) ts = ap (term_tokens t) (parts_each ps ts)

last_number : (n : ℕ) (st : State) (r : Result (List ℕ) Refusal) (st' : State) → Then (Is []) (λ ns. Is (n ∷ ns)) st r st' → Is (n ∷ []) st r st'
last_number n st r st' (on ns mid h k) = let i = h.0 in let j = k.0 in (cc, k.1 ∙ h.1)
last_number n st r st' (ended e h k) = let i = h.0 in cc

all_made : (ds : Known) (ps : Parts) (st : State) (r : Result (List ℕ) Refusal) (st' : State) → EachMade ds (others ps) st r st' → AllMade ds ps st r st'
all_made ds (final t) st r st' (on n mid m k) = on n mid m (last_number n mid r st' k)
all_made ds (final t) st r st' (ended e m k) = ended e m k
all_made ds (more t ps) st r st' (on n mid m (on ns last ms k)) = on n mid m (on ns last (all_made ds ps mid (Ok ns) last ms) k)
all_made ds (more t ps) st r st' (on n mid m (ended e ms k)) = on n mid m (ended e (all_made ds ps mid (Err e) st' ms) k)
all_made ds (more t ps) st r st' (ended e m k) = ended e m k

-- a term that is a tuple
pub record IsTuple (ds : Known) (t : Term) (rest ts : List Tok) : Type 0 where
  pub first : Term
  pub others : List Term
  pub is : rest ≡ each_tokens (first ∷ others) ts
  pub whole : (st : State) (r : Result ℕ Refusal) (st' : State) → TupleMade ds first others st r st' → Made ds t st r st'

tuple_whole : (ds : Known) (u : Term) (ps : Parts) (st : State) (r : Result ℕ Refusal) (st' : State) → TupleMade ds u (others ps) st r st' → Made ds (tuple u ps) st r st'
tuple_whole ds u ps st r st' (on a mid m (on bs last ms k)) = on a mid m (on bs last (all_made ds ps mid (Ok bs) last ms) k)
tuple_whole ds u ps st r st' (on a mid m (ended e ms k)) = on a mid m (ended e (all_made ds ps mid (Err e) st' ms) k)
tuple_whole ds u ps st r st' (ended e m k) = ended e m k

pub round_term : (ds : Known) (t : Term) (rest ts : List Tok) → opens Round ∷ rest ≡ term_tokens t ts → IsTuple ds t rest ts
round_term ds (key k) rest ts e = let z : opens Round ≡ name (key_name k) = cc (key_begins k ts) in let y : ⊥ = cc in absurd y
round_term ds (tuple u ps) rest ts e = record {
  first = u;
  others = others ps;
  is = let i : rest ≡ term_tokens u (part_tokens ps ts) = cc in i ∙ ap (term_tokens u) (parts_each ps ts);
  whole = λ st r st' h. tuple_whole ds u ps st r st' h;
}
round_term ds (sealed u k) rest ts e = let y : ⊥ = cc in absurd y
round_term ds (digest f u) rest ts e = let y : ⊥ = cc in absurd y

-- a term that is sealed
pub record IsSealed (ds : Known) (t : Term) (rest ts : List Tok) : Type 0 where
  pub content : Term
  pub sealer : Key
  pub is : rest ≡ term_tokens content (closes Curly ∷ key_tokens sealer ts)
  pub whole : (st : State) (r : Result ℕ Refusal) (st' : State) → SealedMade ds content sealer st r st' → Made ds t st r st'

pub curly_term : (ds : Known) (t : Term) (rest ts : List Tok) → opens Curly ∷ rest ≡ term_tokens t ts → IsSealed ds t rest ts
curly_term ds (key k) rest ts e = let z : opens Curly ≡ name (key_name k) = cc (key_begins k ts) in let y : ⊥ = cc in absurd y
curly_term ds (tuple u ps) rest ts e = let y : ⊥ = cc in absurd y
curly_term ds (sealed u k) rest ts e = record { content = u; sealer = k; is = cc; whole = λ st r st' m. m }
curly_term ds (digest f u) rest ts e = let y : ⊥ = cc in absurd y

-- no angle bracket opens here
abbrev pub NoAngle : List Tok → Type 0
NoAngle [] = ⊥
NoAngle (x ∷ xs) = sign x ≡ signs.Opens Angle → ⊥

angles : (x : Tok) → parts_terms x → sign x ≡ signs.Opens Angle → ⊥
angles (name w) h e = cc
angles (keyword k) h e = cc
angles (opens Round) h e = cc
angles (opens Curly) h e = cc
angles (opens Square) h e = h
angles (opens Angle) h e = h
angles (closes s) h e = cc
angles tick h e = h
angles end h e = cc
angles stray h e = cc

apart_angle : (ts : List Tok) → Apart ts → NoAngle ts
apart_angle [] h = h
apart_angle (x ∷ xs) h = angles x h

rest_angle : (k : Key) (ts : List Tok) → NoAngle ts → NoAngle (key_rest k ts)
rest_angle (named n) ts h = h
rest_angle (entry t a) ts h = λ e. cc
rest_angle (mate k) ts h = rest_angle k (tick ∷ ts) (λ e. cc)

-- tokens stay where they are if they open no angle bracket
stays : (text : List ℕ) (p q : ℕ) (ts : List Tok) → NoAngle ts → ((x : Tok) (xs : List Tok) → Ahead text p (x ∷ xs) → (sign x ≡ signs.Opens Angle → ⊥) × Ahead text q (x ∷ xs)) → Ahead text p ts
    → Ahead text q ts
stays text p q [] n h a = absurd n
stays text p q (x ∷ xs) n h a = (h x xs a).1

-- a term that is a key, whose name was read
pub record IsKey (ds : Known) (w : List ℕ) (text : List ℕ) (q : ℕ) (t : Term) (ts : List Tok) : Type 0 where
  pub is_key : Key
  pub named : w ≡ key_name is_key
  pub ahead : Ahead text q (key_rest is_key ts)
  pub whole : (st : State) (r : Result ℕ Refusal) (st' : State) → KeyMade ds is_key st r st' → Made ds t st r st'

pub key_term : (ds : Known) (text : List ℕ) (p q : ℕ) (t : Term) (w : List ℕ) (rest ts : List Tok)
    → ((x : Tok) (xs : List Tok) → Ahead text p (x ∷ xs) → (sign x ≡ signs.Opens Angle → ⊥) × Ahead text q (x ∷ xs))
    → Apart ts → name w ∷ rest ≡ term_tokens t ts → Ahead text p rest → IsKey ds w text q t ts
key_term ds text p q (key k) w rest ts h m e a =
    let i : rest ≡ key_rest k ts = cc (key_begins k ts) in
    record {
      is_key = k;
      named = cc (key_begins k ts);
      ahead = stays text p q (key_rest k ts) (rest_angle k ts (apart_angle ts m)) h (rw i at a);
      whole = λ st r st' m. m;
    }
key_term ds text p q (tuple u ps) w rest ts h m e a = let y : ⊥ = cc in absurd y
key_term ds text p q (sealed u k) w rest ts h m e a = let y : ⊥ = cc in absurd y
key_term ds text p q (digest f u) w rest ts h m e a =
    let i : rest ≡ opens Angle ∷ term_tokens u (closes Angle ∷ ts) = cc in
    absurd ((h (opens Angle) (term_tokens u (closes Angle ∷ ts)) (rw i at a)).0 refl)

-- a term that is a digest, whose angle bracket was passed
pub record IsDigest (ds : Known) (w : List ℕ) (text : List ℕ) (q : ℕ) (t : Term) (ts : List Tok) : Type 0 where
  pub content : Term
  pub ahead : Ahead text q (term_tokens content (closes Angle ∷ ts))
  pub whole : (st : State) (r : Result ℕ Refusal) (st' : State) → Then (Made ds content) (λ a. Builds DIGEST (number_in ds w) a) st r st' → Made ds t st r st'

passed : (text : List ℕ) (p q : ℕ) (ts : List Tok) → NoAngle ts → ((x : Tok) (xs : List Tok) → Ahead text p (x ∷ xs) → (sign x ≡ signs.Opens Angle) × Ahead text q xs) → Ahead text p ts → ⊥
passed text p q [] n h a = n
passed text p q (x ∷ xs) n h a = n (h x xs a).0

pub digest_term : (ds : Known) (text : List ℕ) (p q : ℕ) (t : Term) (w : List ℕ) (rest ts : List Tok)
    → ((x : Tok) (xs : List Tok) → Ahead text p (x ∷ xs) → (sign x ≡ signs.Opens Angle) × Ahead text q xs)
    → Apart ts → name w ∷ rest ≡ term_tokens t ts → Ahead text p rest → IsDigest ds w text q t ts
digest_term ds text p q (key k) w rest ts h m e a =
    let i : rest ≡ key_rest k ts = cc (key_begins k ts) in
    absurd (passed text p q (key_rest k ts) (rest_angle k ts (apart_angle ts m)) h (rw i at a))
digest_term ds text p q (tuple u ps) w rest ts h m e a = let y : ⊥ = cc in absurd y
digest_term ds text p q (sealed u k) w rest ts h m e a = let y : ⊥ = cc in absurd y
digest_term ds text p q (digest f u) w rest ts h m e a =
    let i : rest ≡ opens Angle ∷ term_tokens u (closes Angle ∷ ts) = cc in
    let j : w ≡ f = cc in
    record {
      content = u;
      ahead = (h (opens Angle) (term_tokens u (closes Angle ∷ ts)) (rw i at a)).1;
      whole = λ st r st' d. rw j at d;
    }
