-- A nonterminal in front: its kept bindings are tried, first by a hint, then all that lead to the goal.
use Prim.Native.Nat.{ℕ, suc, ◌<◌, ◌≤◌}
use native.Mathlib.Omega.{arith}
use native.Mathlib.Decide.{dec_lt, ℕ_discrete}
use mathlib.Core.Path.{◌≡◌, refl, sym, ap, subst, ◌∙◌}
use mathlib.Core.Bool.{Bool, true, false, true≢false}
use mathlib.Core.List.{List}
use mathlib.Core.Option.{some}
use Rattle.scheme.specs.Terms.{nt, Term, node, Terms, countᵗ}
use Rattle.scheme.specs.Types.{Ty, off}
use Rattle.std.specs.Prelude.{Some, None}
use Rattle.tables.specs.reading.Cells.{group_of, node_at}
use Rattle.tables.specs.declared.reading.Node.{Node}
use Rattle.tables.specs.Facts.{Goal, At, AllAt, head_by, binding_at}
use Rattle.term_check.specs.notes.Notes.{base_in, Notes}
use Rattle.term_check.specs.heads.Heads.{Fails, Tries, Leads, Misses, IsCandidate}
use Rattle.term_check.specs.Worlds.{Args, Case, World, Has, Setting, Ready, Includes, Keeps, ChecksTerm, ChecksArgs, symbols}
use Rattle.term_check.proofs.Rules.{bound_has, bound_had}
use Rattle.term_check.proofs.Places.{behind_head}
use Rattle.term_check.proofs.check.Keeping.{includes_less, keeps_all, keeps_on, keeps_note, ready_on}

-- the head of the term at a node, by the node's tag and number
pub data Split (x : Case) (w : World) (a : Node) (at : ℕ) (u : Term) : Type 0 where
  split : (ts : Terms) → u ≡ node (head_by a.tag a.number) ts → AllAt w.ns (suc at) ts → countᵗ ts ≡ a.count → a.count < 256 → Split x w a at u

pub split_term : (x : Case) (w : World) → Setting x w → (a : Node) (at : ℕ) → a ≡ node_at x.t (base_in x.test) at → (u : Term) → At w.ns at u → Split x w a at u
split_term x w s a at e (node h ts) here =
    let n = s.nodes at h ts here in
    split ts (ap (λ z. node z ts) (sym (ap (λ (b : Node). head_by b.tag b.number) e ∙ n.head))) (behind_head w.ns at h ts here) (sym (ap (λ (b : Node). b.count) e ∙ n.arguments)) (let f = n.few in let g : a.count ≡ countᵗ ts = ap (λ (b : Node). b.count) e ∙ n.arguments in omega arith)

pub head_bound : (tag number : ℕ) → tag ≡ 1 → head_by tag number ≡ nt number
unfolding head_by
head_bound tag number e = ap (λ k. head_by k number) e

-- a nonterminal in front is one of the file's
pub symbol_known : (x : Case) (w : World) → Setting x w → (a : Node) (at : ℕ) → a ≡ node_at x.t (base_in x.test) at → a.tag ≡ 1 → (u : Term) → At w.ns at u → a.number < symbols w
symbol_known x w s a at e et (node h ts) here =
    let n = s.nodes at h ts here in
    n.known a.number (sym n.head ∙ ap (λ (b : Node). head_by b.tag b.number) (sym e) ∙ head_bound a.tag a.number et)

-- One binding, tried.
module _ (x : Case) (memo users : List ℕ) (at goal : ℕ) (a : Node) (c : ℕ) where
  pub try_misses : IsCandidate x a.number a.count goal c None → Tries x memo users at goal a c memo users false
  try_misses is ea et =
      record { keeps = keeps_all x memo users; yes = λ y. absurd (true≢false (sym y)); no = λ y w r σ g ts al n few leads args. is.misses refl w r.setting σ g few leads }

  module _ (ty : ℕ) (is : IsCandidate x a.number a.count goal c (Some ty)) (first : ℕ) (is-first : first ≡ suc at) (memo'' users'' : List ℕ) (b : Bool) (told : ChecksArgs x memo users first a.count ty memo'' users'' b) where
    pub try_lacks : b ≡ false → Tries x memo users at goal a c memo'' users'' false
    try_lacks e ea et =
        record {
          keeps = told.keeps;
          yes = λ y. absurd (true≢false (sym y));
          no = λ y w r σ g ts al n few leads args. told.no e w r ts (subst (λ k. AllAt w.ns k ts) (sym is-first) al) n (binding_at w.rs c).type σ (is.owns ty refl w r.setting leads.inside) leads.rest args;
        }

    -- it serves, and that is noted
    pub try_serves : b ≡ true → (users''' : List ℕ) → Notes users'' x.test c users''' → Tries x memo users at goal a c memo'' users''' true
    try_serves e users''' n ea et =
        record {
          keeps = keeps_on told.keeps (keeps_note x memo'' users'' users''' c n);
          yes = λ y w r flags inc u here σ g. serves w r (symbol_known x w r.setting a at ea et u here) flags inc u σ g (split_term x w r.setting a at ea u here);
          no = λ y. absurd (true≢false y);
        }
      where
        serves : (w : World) → Ready x w memo users → a.number < symbols w → (flags : List ℕ) → Includes x w users''' flags → (u : Term) (σ : Ty) → Goal w.rs goal σ → Split x w a at u → Has w flags u σ
        serves w r known flags inc u σ g (split ts eu al count few) =
            let leads = is.leads ty refl w r.setting known σ g in
            let own = is.owns ty refl w r.setting leads.inside in
            let eh : u ≡ node (nt a.number) ts = eu ∙ ap (λ h. node h ts) (head_bound a.tag a.number et) in
            let less = includes_less x w users'' users''' n.grows flags inc in
            let args = told.yes e w r flags less ts (subst (λ k. AllAt w.ns k ts) (sym is-first) al) count (binding_at w.rs c).type σ own leads.rest in
            let room = (ready_on told.keeps r).room in
            let kept_there = inc c leads.inside (record { is_kept_law = leads.is_kept_law; noted = n.noted room.owner (room.columns c leads.inside) (room.briefs c leads.inside) }) in
            subst (λ z. Has w flags z σ) (sym eh) (bound_has w flags ts σ a.number c leads.inside kept_there leads.symbol (subst (λ k. off k (binding_at w.rs c).type ≡ some σ) (sym count) leads.rest) args)

-- All of them, one after another.
module _ (x : Case) (memo users : List ℕ) (at goal : ℕ) (a : Node) where
  -- those from the first of the nonterminal on, and before one, do not serve
  pub record Failed (memo' users' : List ℕ) (from : ℕ) : Type 0 where
    pub keeps : Keeps x memo users memo' users'
    pub fails : (w : World) → Ready x w memo users → (c : ℕ) → group_of x.t a.number ≤ c → c < from → Fails w at goal a c

  -- the same but for the one that is to be tried, which is the last of them
  pub record Tried (memo' users' : List ℕ) (from c : ℕ) : Type 0 where
    pub keeps : Keeps x memo users memo' users'
    pub last : from ≡ suc c
    pub fails : (w : World) → Ready x w memo users → (d : ℕ) → group_of x.t a.number ≤ d → d < from → (d ≡ c → ⊥) → Fails w at goal a d

  module _ {memo' users' : List ℕ} {from c : ℕ} (t : Tried memo' users' from c) where
    -- it does not serve either
    failed_more : (memo'' users'' : List ℕ) → Keeps x memo users memo'' users'' → ((w : World) → Ready x w memo users → Fails w at goal a c) → Failed memo'' users'' from
    failed_more memo'' users'' k f = record { keeps = k; fails = λ w r d l h. by w r d l h (ℕ_discrete d c) }
      where
        by : (w : World) → Ready x w memo users → (d : ℕ) → group_of x.t a.number ≤ d → d < from → Dec (d ≡ c) → Fails w at goal a d
        by w r d l h (yes e) = subst (Fails w at goal a) (sym e) (f w r)
        by w r d l h (no ne) = t.fails w r d l h ne

    module _ (memo'' users'' : List ℕ) (b : Bool) (ea : a ≡ node_at x.t (base_in x.test) at) (et : a.tag ≡ 1) (told : Tries x memo' users' at goal a c memo'' users'' b) where
      -- it served
      pub tried_serves : b ≡ true → ChecksTerm x memo users at goal memo'' users'' true
      tried_serves e =
          record {
            keeps = keeps_on t.keeps (told ea et).keeps;
            yes = λ y w r. (told ea et).yes e w (ready_on t.keeps r);
            no = λ y. absurd (true≢false y);
          }

      pub tried_fails : b ≡ false → Failed memo'' users'' from
      tried_fails e = failed_more memo'' users'' (keeps_on t.keeps (told ea et).keeps) (λ w r. (told ea et).no e w (ready_on t.keeps r))

  module _ {memo' users' : List ℕ} {from : ℕ} (f : Failed memo' users' from) where
    -- no binding of the nonterminal serves
    pub failed_end : ((c : ℕ) → from ≤ c → Misses x a.number a.count goal c) → a ≡ node_at x.t (base_in x.test) at → a.tag ≡ 1 → ChecksTerm x memo users at goal memo' users' false
    failed_end behind ea et =
        record {
          keeps = f.keeps;
          yes = λ y. absurd (true≢false (sym y));
          no = λ y w r u here σ g has. none w r u σ g has (split_term x w r.setting a at ea u here);
        }
      where
        none : (w : World) → Ready x w memo users → (u : Term) (σ : Ty) → Goal w.rs goal σ → Has w w.kept u σ → Split x w a at u → ⊥
        none w r u σ g has (split ts eu al count few) =
            let eh' : u ≡ node (nt a.number) ts = eu ∙ ap (λ h. node h ts) (head_bound a.tag a.number et) in
            let (c', inside, kept, symbol, rest, args) = bound_had w w.kept ts σ a.number (subst (λ z. Has w w.kept z σ) eh' has) in
            let low : group_of x.t a.number ≤ c' = subst (λ f. group_of x.t f ≤ c') symbol (r.setting.bindings.grouped c' inside).0 in
            let leads : Leads w a.number a.count σ c' = record { inside = inside; is_kept_law = kept; symbol = symbol; rest = subst (λ k. off k (binding_at w.rs c').type ≡ some σ) count rest } in
            by c' low leads args (dec_lt c' from)
          where
            by : (c : ℕ) → group_of x.t a.number ≤ c → Leads w a.number a.count σ c → Args (Has w w.kept) ts (binding_at w.rs c).type → Dec (c < from) → ⊥
            by c low leads args (yes h) = f.fails w r c low h σ g ts al count few leads args
            by c low leads args (no h) = behind c (omega arith) w r.setting σ g few leads

    -- the next one that leads to the goal
    pub try_next : (c from' : ℕ) → ((d : ℕ) → from ≤ d → d < c → Misses x a.number a.count goal d) → from' ≡ suc c → Tried memo' users' from' c
    try_next c from' passed ef =
        record { keeps = f.keeps; last = ef; fails = λ w r d l h ne. by w r d l (omega arith) ne (dec_lt d from) }
      where
        by : (w : World) → Ready x w memo users → (d : ℕ) → group_of x.t a.number ≤ d → d ≤ c → (d ≡ c → ⊥) → Dec (d < from) → Fails w at goal a d
        by w r d l h ne (yes k) σ g ts al count few leads args = f.fails w r d l k σ g ts al count few leads args
        by w r d l h ne (no k) σ g ts al count few leads args = passed d (omega arith) (omega arith) w r.setting σ g few leads

-- a binding that serves decides
pub served : {x : Case} {memo users memo' users' : List ℕ} (at : ℕ) {goal : ℕ} {a : Node} {c : ℕ} → a ≡ node_at x.t (base_in x.test) at → a.tag ≡ 1 → {b : Bool} → Tries x memo users at goal a c memo' users' b → b ≡ true → ChecksTerm x memo users at goal memo' users' true
served at ea et told e = record { keeps = (told ea et).keeps; yes = λ y. (told ea et).yes e; no = λ y. absurd (true≢false y) }
