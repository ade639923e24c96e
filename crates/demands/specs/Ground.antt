-- The ground case E and the cases made from it, as two tables: a file and lent flags, the answer and the flags afterwards; and a
-- third: a file and lent numbers, the answer and the numbers afterwards. Sections "The ground case E" and "What is turned away" of
-- the scope, Note 2 of the change requests; bytes are in the order shown there.
use Rattle.std.specs.Prelude.{ℕ, zero, suc, ◌/◌, ◌%◌, List, [], ◌∷◌, ◌++◌, length, replicate}
use Rattle.demands.specs.Answers.{Answer, proved, unproved, refuted, refused}

-- a worked line
pub record Line : Type 0 where
  pub file : List ℕ
  pub lent : List ℕ
  pub says : Answer
  pub flags : List ℕ

-- a worked line of the explanations
pub record ReasonLine : Type 0 where
  pub file : List ℕ
  pub lent : List ℕ
  pub says : Answer
  pub numbers : List ℕ

-- sort 1 is o to o; constructors br, open, close, end; nonterminals S and F
abbrev pub signature : List ℕ
signature =
    0x04 ∷ 0x00 ∷ 0x01 ∷ 0x00 ∷ 0x00 ∷ 0x00 ∷ 0x00 ∷ 0x00 ∷
    0x01 ∷ 0x00 ∷ 0x02 ∷ 0x00 ∷ 0x02 ∷
    0x01 ∷ 0x00 ∷ 0x02 ∷ 0x00 ∷ 0x01 ∷
    0x01 ∷ 0x00 ∷ 0x02 ∷ 0x00 ∷ 0x01 ∷
    0x01 ∷ 0x00 ∷ 0x02 ∷ 0x00 ∷ 0x00 ∷
    0x02 ∷ 0x00 ∷ 0x03 ∷ 0x00 ∷ 0x00 ∷ 0x00 ∷
    0x02 ∷ 0x00 ∷ 0x03 ∷ 0x00 ∷ 0x01 ∷ 0x00 ∷ []

-- S is F end
abbrev pub rule_s : List ℕ
rule_s =
    0x08 ∷ 0x00 ∷ 0x04 ∷ 0x00 ∷ 0x01 ∷ 0x01 ∷ 0x00 ∷ 0x01 ∷ 0x00 ∷ 0x03 ∷ 0x00 ∷ 0x00 ∷ []

-- F x is br x (open (close (F x)))
abbrev pub rule_f : List ℕ
rule_f =
    0x18 ∷ 0x00 ∷ 0x04 ∷ 0x00 ∷ 0x00 ∷ 0x00 ∷ 0x00 ∷ 0x02 ∷ 0x02 ∷ 0x00 ∷ 0x00 ∷ 0x00 ∷ 0x00 ∷ 0x01 ∷ 0x00 ∷ 0x01 ∷
    0x00 ∷ 0x02 ∷ 0x00 ∷ 0x01 ∷ 0x01 ∷ 0x01 ∷ 0x00 ∷ 0x01 ∷ 0x02 ∷ 0x00 ∷ 0x00 ∷ 0x00 ∷ []

-- in B, F x is br x (open (F x))
abbrev pub rule_f_b : List ℕ
rule_f_b =
    0x14 ∷ 0x00 ∷ 0x04 ∷ 0x00 ∷ 0x00 ∷ 0x00 ∷ 0x00 ∷ 0x02 ∷ 0x02 ∷ 0x00 ∷ 0x00 ∷ 0x00 ∷ 0x00 ∷ 0x01 ∷ 0x00 ∷ 0x01 ∷
    0x01 ∷ 0x01 ∷ 0x00 ∷ 0x01 ∷ 0x02 ∷ 0x00 ∷ 0x00 ∷ 0x00 ∷ []

-- in G, H x is H (open (open x)), H in the place of F
abbrev pub rule_h : List ℕ
rule_h =
    0x10 ∷ 0x00 ∷ 0x04 ∷ 0x00 ∷ 0x01 ∷ 0x01 ∷ 0x00 ∷ 0x01 ∷ 0x00 ∷ 0x01 ∷ 0x00 ∷ 0x01 ∷ 0x00 ∷ 0x01 ∷ 0x00 ∷ 0x01 ∷
    0x02 ∷ 0x00 ∷ 0x00 ∷ 0x00 ∷ []

-- two states and four transitions
abbrev pub automaton : List ℕ
automaton =
    0x01 ∷ 0x00 ∷ 0x05 ∷ 0x00 ∷ 0x02 ∷
    0x06 ∷ 0x00 ∷ 0x06 ∷ 0x00 ∷ 0x00 ∷ 0x00 ∷ 0x00 ∷ 0x00 ∷ 0x00 ∷ 0x00 ∷
    0x06 ∷ 0x00 ∷ 0x06 ∷ 0x00 ∷ 0x00 ∷ 0x01 ∷ 0x01 ∷ 0x00 ∷ 0x00 ∷ 0x00 ∷
    0x06 ∷ 0x00 ∷ 0x06 ∷ 0x00 ∷ 0x00 ∷ 0x03 ∷ 0x00 ∷ 0x00 ∷ 0x00 ∷ 0x00 ∷
    0x06 ∷ 0x00 ∷ 0x06 ∷ 0x00 ∷ 0x01 ∷ 0x02 ∷ 0x00 ∷ 0x00 ∷ 0x00 ∷ 0x00 ∷ []

-- T0 is state 0, and T1 takes {T0} to T0
abbrev pub types01 : List ℕ
types01 =
    0x01 ∷ 0x00 ∷ 0x07 ∷ 0x00 ∷ 0x00 ∷
    0x04 ∷ 0x00 ∷ 0x07 ∷ 0x00 ∷ 0x00 ∷ 0x00 ∷ 0x00 ∷ 0x00 ∷ []

-- T2 takes the empty set to T0
abbrev pub type2 : List ℕ
type2 =
    0x02 ∷ 0x00 ∷ 0x07 ∷ 0x00 ∷ 0x00 ∷ 0x00 ∷ []

-- the binding (S, T0)
abbrev pub bind_s0 : List ℕ
bind_s0 =
    0x04 ∷ 0x00 ∷ 0x08 ∷ 0x00 ∷ 0x00 ∷ 0x00 ∷ 0x00 ∷ 0x00 ∷ []

-- the binding (F, T1)
abbrev pub bind_f1 : List ℕ
bind_f1 =
    0x04 ∷ 0x00 ∷ 0x08 ∷ 0x00 ∷ 0x01 ∷ 0x00 ∷ 0x01 ∷ 0x00 ∷ []

-- the binding (F, T2)
abbrev pub bind_f2 : List ℕ
bind_f2 =
    0x04 ∷ 0x00 ∷ 0x08 ∷ 0x00 ∷ 0x01 ∷ 0x00 ∷ 0x02 ∷ 0x00 ∷ []

-- the binding (S, T1), which does not fit
abbrev pub bind_s1 : List ℕ
bind_s1 =
    0x04 ∷ 0x00 ∷ 0x08 ∷ 0x00 ∷ 0x00 ∷ 0x00 ∷ 0x01 ∷ 0x00 ∷ []

-- S is S, with no constructors and one state
abbrev pub plan_loop : List ℕ
plan_loop =
    0x02 ∷ 0x00 ∷ 0x03 ∷ 0x00 ∷ 0x00 ∷ 0x00 ∷
    0x04 ∷ 0x00 ∷ 0x04 ∷ 0x00 ∷ 0x01 ∷ 0x00 ∷ 0x00 ∷ 0x00 ∷
    0x01 ∷ 0x00 ∷ 0x05 ∷ 0x00 ∷ 0x01 ∷ []

-- T0 alone
abbrev pub type0 : List ℕ
type0 =
    0x01 ∷ 0x00 ∷ 0x07 ∷ 0x00 ∷ 0x00 ∷ []

-- plan and automaton of E
abbrev pub plan_e : List ℕ
plan_e = signature ++ rule_s ++ rule_f ++ automaton

-- plan and automaton of B
abbrev pub plan_b : List ℕ
plan_b = signature ++ rule_s ++ rule_f_b ++ automaton

-- plan and automaton of G
abbrev pub plan_g : List ℕ
plan_g = signature ++ rule_s ++ rule_h ++ automaton

-- "E, 154 bytes"
abbrev pub E : List ℕ
E = plan_e ++ types01 ++ bind_s0 ++ bind_f1

-- a record of a kind
abbrev pub record_of : ℕ → List ℕ → List ℕ
record_of kind payload = length payload % 256 ∷ length payload / 256 ∷ kind % 256 ∷ kind / 256 ∷ payload

-- a path record
abbrev pub path : List ℕ → List ℕ
path letters = record_of 9 letters

-- a path of n zeros
abbrev pub zeros : ℕ → List ℕ
zeros n = path (replicate n 0)

-- n copies of a record
abbrev pub times : ℕ → List ℕ → List ℕ
times zero l = []
times (suc n) l = l ++ times n l

-- The starred lines. The lent flags hold 7s, so that a byte that is not written shows.
abbrev pub starred : List Line
starred =
    record { file = E; lent = 7 ∷ 7 ∷ 7 ∷ []; says = proved 2 2 0; flags = 1 ∷ 1 ∷ 7 ∷ [] } ∷
    record { file = plan_e ++ types01 ++ type2 ++ bind_s0 ++ bind_f1 ++ bind_f2; lent = 7 ∷ 7 ∷ 7 ∷ []; says = proved 2 3 1; flags = 1 ∷ 1 ∷ 0 ∷ [] } ∷
    record { file = plan_e ++ types01 ++ type2 ++ bind_s0 ++ bind_f2; lent = 7 ∷ 7 ∷ 7 ∷ []; says = unproved 0 2 2; flags = 0 ∷ 0 ∷ 7 ∷ [] } ∷
    record { file = plan_e ++ types01; lent = 7 ∷ []; says = unproved 0 0 0; flags = 7 ∷ [] } ∷
    record { file = plan_e ++ types01 ++ bind_f1; lent = 7 ∷ []; says = unproved 1 1 0; flags = 1 ∷ [] } ∷
    record { file = plan_loop ++ type0 ++ bind_s0; lent = 7 ∷ []; says = proved 1 1 0; flags = 1 ∷ [] } ∷
    record { file = plan_b ++ types01 ++ bind_s0 ++ bind_f1; lent = 7 ∷ 7 ∷ []; says = unproved 0 2 2; flags = 0 ∷ 0 ∷ [] } ∷
    record { file = plan_b ++ path (0 ∷ 0 ∷ 2 ∷ 1 ∷ 0 ∷ []); lent = 7 ∷ []; says = refuted 5 1 0; flags = 7 ∷ [] } ∷
    record { file = plan_b ++ path (0 ∷ 0 ∷ 2 ∷ 1 ∷ []); lent = 7 ∷ []; says = refused 15 4; flags = 7 ∷ [] } ∷
    record { file = plan_b ++ path (0 ∷ 0 ∷ 2 ∷ 1 ∷ 0 ∷ 1 ∷ []); lent = 7 ∷ []; says = refused 13 5; flags = 7 ∷ [] } ∷
    record { file = plan_b ++ path (0 ∷ 0 ∷ 3 ∷ []); lent = 7 ∷ []; says = refused 13 2; flags = 7 ∷ [] } ∷ []

-- The small inputs of the table of refusals, 1 to 15, and the lines of the ground case that bear no star; then remarks, Note 1 of
-- the change requests.
abbrev pub small : List Line
small =
    -- 60,001 zero bytes
    record { file = replicate 60001 0; lent = 7 ∷ []; says = refused 1 0; flags = 7 ∷ [] } ∷
    -- 60,000 of them meet no 1
    record { file = replicate 60000 0; lent = 7 ∷ []; says = refused 3 0; flags = 7 ∷ [] } ∷
    record { file = 0x01 ∷ 0x00 ∷ 0x02 ∷ []; lent = 7 ∷ []; says = refused 2 0; flags = 7 ∷ [] } ∷
    record { file = 0x00 ∷ 0x00 ∷ 0x0A ∷ 0x00 ∷ []; lent = 7 ∷ []; says = refused 3 0; flags = 7 ∷ [] } ∷
    record { file = 0x00 ∷ 0x00 ∷ 0x05 ∷ 0x00 ∷ []; lent = 7 ∷ []; says = refused 4 0; flags = 7 ∷ [] } ∷
    -- a 33rd constructor
    record { file = times 33 (record_of 2 (0 ∷ [])); lent = 7 ∷ []; says = refused 5 160; flags = 7 ∷ [] } ∷
    record { file = 0x01 ∷ 0x00 ∷ 0x02 ∷ 0x00 ∷ 0x05 ∷ []; lent = 7 ∷ []; says = refused 6 0; flags = 7 ∷ [] } ∷
    -- E's last record twice
    record { file = E ++ bind_f1; lent = 7 ∷ 7 ∷ 7 ∷ []; says = refused 7 154; flags = 7 ∷ 7 ∷ 7 ∷ [] } ∷
    record { file = []; lent = 7 ∷ []; says = refused 8 0; flags = 7 ∷ [] } ∷
    record { file = signature ++ record_of 4 (0x00 ∷ 0x03 ∷ 0x00 ∷ 0x01 ∷ []) ++ rule_f ++ automaton ++ types01 ++ bind_s0 ++ bind_f1; lent = 7 ∷ 7 ∷ []; says = refused 9 40; flags = 7 ∷ 7 ∷ [] } ∷
    record { file = E ++ path []; lent = 7 ∷ 7 ∷ []; says = refused 10 0; flags = 7 ∷ 7 ∷ [] } ∷
    record { file = plan_e ++ types01 ++ bind_s1 ++ bind_f1; lent = 7 ∷ 7 ∷ []; says = refused 11 138; flags = 7 ∷ 7 ∷ [] } ∷
    -- one flag byte
    record { file = E; lent = 7 ∷ []; says = refused 12 0; flags = 7 ∷ [] } ∷
    record { file = plan_e ++ path (1 ∷ []); lent = 7 ∷ []; says = refused 13 0; flags = 7 ∷ [] } ∷
    record { file = plan_g ++ zeros 2049; lent = 7 ∷ []; says = refused 14 2048; flags = 7 ∷ [] } ∷
    record { file = plan_e ++ path []; lent = 7 ∷ []; says = refused 15 0; flags = 7 ∷ [] } ∷
    -- 4,096 nodes are allowed
    record { file = plan_g ++ zeros 2048; lent = 7 ∷ []; says = refused 15 2048; flags = 7 ∷ [] } ∷
    record { file = plan_loop ++ zeros 4096; lent = 7 ∷ []; says = refused 15 4096; flags = 7 ∷ [] } ∷
    record { file = plan_loop ++ zeros 4097; lent = 7 ∷ []; says = refused 5 19; flags = 7 ∷ [] } ∷
    -- remarks of the lowest and of the highest kind around E, and one between its bindings
    record { file = record_of 0x8000 [] ++ E ++ record_of 0xFFFF (1 ∷ 2 ∷ []); lent = 7 ∷ 7 ∷ 7 ∷ []; says = proved 2 2 0; flags = 1 ∷ 1 ∷ 7 ∷ [] } ∷
    record { file = plan_e ++ types01 ++ bind_s0 ++ record_of 0x8001 (7 ∷ []) ++ bind_f1; lent = 7 ∷ 7 ∷ 7 ∷ []; says = proved 2 2 0; flags = 1 ∷ 1 ∷ 7 ∷ [] } ∷
    -- B, path 0 0 2 1 0, a remark before it
    record { file = plan_b ++ record_of 0x8000 (9 ∷ []) ++ path (0 ∷ 0 ∷ 2 ∷ 1 ∷ 0 ∷ []); lent = 7 ∷ []; says = refuted 5 1 0; flags = 7 ∷ [] } ∷
    -- 7FFF is the highest kind that is none
    record { file = record_of 0x7FFF []; lent = 7 ∷ []; says = refused 3 0; flags = 7 ∷ [] } ∷
    record { file = record_of 0x8000 [] ++ record_of 0x7FFF []; lent = 7 ∷ []; says = refused 3 4; flags = 7 ∷ [] } ∷
    -- kinds 2, remark, 1: the order is judged without the remark
    record { file = record_of 2 (0 ∷ []) ++ record_of 0x8000 [] ++ record_of 1 (0 ∷ 0 ∷ 0 ∷ 0 ∷ []); lent = 7 ∷ []; says = refused 3 9; flags = 7 ∷ [] } ∷
    -- places count the bytes of remarks: E's last record twice, a remark between them
    record { file = E ++ record_of 0xFFFF (1 ∷ 2 ∷ []) ++ bind_f1; lent = 7 ∷ 7 ∷ 7 ∷ []; says = refused 7 160; flags = 7 ∷ 7 ∷ 7 ∷ [] } ∷
    -- a remark can meet 2 and 1
    record { file = E ++ (0xFF ∷ 0xFF ∷ 0xFF ∷ 0xFF ∷ []); lent = 7 ∷ 7 ∷ []; says = refused 2 154; flags = 7 ∷ 7 ∷ [] } ∷
    record { file = record_of 0x8000 (replicate 59997 0); lent = 7 ∷ []; says = refused 1 0; flags = 7 ∷ [] } ∷
    -- remarks alone
    record { file = record_of 0x8000 [] ++ record_of 0xFFFF (1 ∷ 2 ∷ 3 ∷ []); lent = 7 ∷ []; says = refused 8 0; flags = 7 ∷ [] } ∷
    record { file = record_of 0x8000 (replicate 59996 0); lent = 7 ∷ []; says = refused 8 0; flags = 7 ∷ [] } ∷ []

-- S is F (open end)
abbrev pub rule_s_open : List ℕ
rule_s_open = record_of 4 (0x01 ∷ 0x01 ∷ 0x00 ∷ 0x01 ∷ 0x00 ∷ 0x01 ∷ 0x00 ∷ 0x01 ∷ 0x00 ∷ 0x03 ∷ 0x00 ∷ 0x00 ∷ [])

-- S is G (K end), G f is f end, K x y is br x y; sorts 1 to 3 are o to o, (o to o) to o and o to o to o
abbrev pub plan_k : List ℕ
plan_k =
    record_of 1 (0 ∷ 0 ∷ 0 ∷ 0 ∷ []) ++ record_of 1 (1 ∷ 0 ∷ 0 ∷ 0 ∷ []) ++ record_of 1 (0 ∷ 0 ∷ 1 ∷ 0 ∷ [])
    ++ record_of 2 (2 ∷ []) ++ record_of 2 (1 ∷ []) ++ record_of 2 (1 ∷ []) ++ record_of 2 (0 ∷ [])
    ++ record_of 3 (0 ∷ 0 ∷ []) ++ record_of 3 (2 ∷ 0 ∷ []) ++ record_of 3 (3 ∷ 0 ∷ [])
    ++ record_of 4 (0x01 ∷ 0x01 ∷ 0x00 ∷ 0x01 ∷ 0x01 ∷ 0x02 ∷ 0x00 ∷ 0x01 ∷ 0x00 ∷ 0x03 ∷ 0x00 ∷ 0x00 ∷ [])
    ++ record_of 4 (0x02 ∷ 0x00 ∷ 0x00 ∷ 0x01 ∷ 0x00 ∷ 0x03 ∷ 0x00 ∷ 0x00 ∷ [])
    ++ record_of 4 (0x00 ∷ 0x00 ∷ 0x00 ∷ 0x02 ∷ 0x02 ∷ 0x00 ∷ 0x00 ∷ 0x00 ∷ 0x02 ∷ 0x01 ∷ 0x00 ∷ 0x00 ∷ [])
    ++ automaton

-- The explanations: four numbers a binding. The lent numbers are 7s, so that one that is not written shows.
abbrev pub reasons : List ReasonLine
reasons =
    -- both are kept
    record { file = E; lent = replicate 10 7; says = proved 2 2 0; numbers = 0 ∷ 0 ∷ 0 ∷ 0 ∷ 0 ∷ 0 ∷ 0 ∷ 0 ∷ 7 ∷ 7 ∷ [] } ∷
    -- by T2 the parameter has no type: (F, T2) falls at node 1, x, which br wants at state 0
    record { file = plan_e ++ types01 ++ type2 ++ bind_s0 ++ bind_f1 ++ bind_f2; lent = replicate 13 7; says = proved 2 3 1; numbers = 0 ∷ 0 ∷ 0 ∷ 0 ∷ 0 ∷ 0 ∷ 0 ∷ 0 ∷ 1 ∷ 1 ∷ 0 ∷ 0 ∷ 7 ∷ [] } ∷
    -- and without (F, T1) nothing is left for F in round 2: "`binding 0 round 2 node 0 goal state 0`"
    record { file = plan_e ++ types01 ++ type2 ++ bind_s0 ++ bind_f2; lent = replicate 9 7; says = unproved 0 2 2; numbers = 2 ∷ 0 ∷ 0 ∷ 0 ∷ 1 ∷ 1 ∷ 0 ∷ 0 ∷ 7 ∷ [] } ∷
    -- in B, F x of node 3 is wanted at state 1, which is no type of the file, and T1 leads to state 0
    record { file = plan_b ++ types01 ++ bind_s0 ++ bind_f1; lent = replicate 9 7; says = unproved 0 2 2; numbers = 2 ∷ 0 ∷ 0 ∷ 0 ∷ 1 ∷ 3 ∷ 1 ∷ 0 ∷ 7 ∷ [] } ∷
    -- T2 takes {T1} to T0 and T3 takes {T0} to T0, where T1 is state 1: S takes T2, though (F, T2) falls in the same round, and is
    -- stopped at open, node 1; by T3 it would be at end, node 2
    record {
      file = signature ++ rule_s_open ++ rule_f ++ automaton ++ type0 ++ record_of 7 (1 ∷ []) ++ record_of 7 (0 ∷ 0 ∷ 1 ∷ 0 ∷ []) ++ record_of 7 (0 ∷ 0 ∷ 0 ∷ 0 ∷ []) ++ bind_s0 ++ bind_f2 ++ record_of 8 (1 ∷ 0 ∷ 3 ∷ 0 ∷ []);
      lent = replicate 13 7;
      says = unproved 1 3 1;
      numbers = 1 ∷ 1 ∷ 1 ∷ 0 ∷ 1 ∷ 1 ∷ 0 ∷ 0 ∷ 0 ∷ 0 ∷ 0 ∷ 0 ∷ 7 ∷ [];
    } ∷
    -- T3 takes {T0, T2} to T0, where T2 is state 1: end has the first member and lacks the second
    record {
      file = plan_e ++ types01 ++ record_of 7 (1 ∷ []) ++ record_of 7 (0 ∷ 0 ∷ 0 ∷ 0 ∷ 2 ∷ 0 ∷ []) ++ bind_s0 ++ record_of 8 (1 ∷ 0 ∷ 3 ∷ 0 ∷ []);
      lent = replicate 9 7;
      says = unproved 1 2 1;
      numbers = 1 ∷ 1 ∷ 1 ∷ 0 ∷ 0 ∷ 0 ∷ 0 ∷ 0 ∷ 7 ∷ [];
    } ∷
    -- T2 takes {T1} to T0, T3 the empty set to T0, T4 {T0} to T3: K end is wanted with T1, and T4 leads to T3; K's y has no type
    record {
      file =
          plan_k ++ types01 ++ record_of 7 (0 ∷ 0 ∷ 1 ∷ 0 ∷ []) ++ record_of 7 (0 ∷ 0 ∷ []) ++ record_of 7 (3 ∷ 0 ∷ 0 ∷ 0 ∷ []) ++ bind_s0 ++ bind_f2 ++ record_of 8 (2 ∷ 0 ∷ 4 ∷ 0 ∷ []);
      lent = replicate 13 7;
      says = unproved 1 3 1;
      numbers = 1 ∷ 1 ∷ 17 ∷ 0 ∷ 0 ∷ 0 ∷ 0 ∷ 0 ∷ 1 ∷ 2 ∷ 0 ∷ 0 ∷ 7 ∷ [];
    } ∷
    -- S is S
    record { file = plan_loop ++ type0 ++ bind_s0; lent = replicate 5 7; says = proved 1 1 0; numbers = 0 ∷ 0 ∷ 0 ∷ 0 ∷ 7 ∷ [] } ∷
    -- no bindings, a path that replays and one that does not, a refusal: nothing is written
    record { file = plan_e ++ types01; lent = 7 ∷ 7 ∷ []; says = unproved 0 0 0; numbers = 7 ∷ 7 ∷ [] } ∷
    record { file = plan_b ++ path (0 ∷ 0 ∷ 2 ∷ 1 ∷ 0 ∷ []); lent = 7 ∷ 7 ∷ []; says = refuted 5 1 0; numbers = 7 ∷ 7 ∷ [] } ∷
    record { file = plan_b ++ path (0 ∷ 0 ∷ 2 ∷ 1 ∷ []); lent = 7 ∷ 7 ∷ []; says = refused 15 4; numbers = 7 ∷ 7 ∷ [] } ∷
    record { file = E ++ bind_f1; lent = 7 ∷ 7 ∷ []; says = refused 7 154; numbers = 7 ∷ 7 ∷ [] } ∷ []
