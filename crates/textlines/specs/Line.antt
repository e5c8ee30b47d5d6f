-- One line of the text of calls, as it is written and as it is read (lines-1 to lines-3, refusal-22). Choice
-- (docs/DECISIONS.md, "Text of calls"): what a line is read as. Assumes nothing.
use Rattle.std.specs.Prelude.{ℕ, ◌-◌, min, Bool, true, false, cond, ◌&&◌, List, [], ◌∷◌, ◌++◌, length, get_or, take, drop, eqb}
use Rattle.text.specs.Text.{ascii, decimal}
use Rattle.text.specs.Claims.{read_on}
use Rattle.tripfile.specs.Bodies.{Call, call, call_right}

-- lines-2: the names of the codes 1 to 7, in this order; 0 is no code
abbrev pub names : List (List ℕ)
names = []
    ∷ ascii "register"
    ∷ ascii "data"
    ∷ ascii "out"
    ∷ ascii "in"
    ∷ ascii "sms"
    ∷ ascii "topup"
    ∷ ascii "nextday"
    ∷ []

-- lines-2: the name of a code; no bytes where it has none
unfoldable pub name : ℕ → List ℕ
name c = get_or names c []

-- lines-1: a name and the comma after it
unfoldable pub heading : ℕ → List ℕ
heading c = name c ++ ascii ","

-- lines-1, lines-3: the line of a call: name, comma, the number in decimal, line feed
unfoldable pub line : Call → List ℕ
line c = heading c.code ++ (decimal c.number ++ ascii "\n")

-- aid to `code_in`: the code whose name begins with a byte: r, d, o, i, s, t, n. No two names begin alike
abbrev pub code_by : ℕ → ℕ
code_by b = cond (eqb b 114) 1
    (cond (eqb b 100) 2
    (cond (eqb b 111) 3 (cond (eqb b 105) 4 (cond (eqb b 115) 5 (cond (eqb b 116) 6 (cond (eqb b 110) 7 0))))))

-- aid to `call_in`: the code, by the first byte
unfoldable pub code_in : List ℕ → ℕ
code_in l = code_by (get_or l 0 0)

-- aid to `call_in`: the bytes between the comma of a code's name and the last byte
unfoldable pub digits_in : ℕ → List ℕ → List ℕ
digits_in c l = take (length l - 1 - length (heading c)) (drop (length (heading c)) l)

-- aid to `call_in`: what they read as, held at the largest word, whose digits are not those of a larger number
unfoldable pub number_in : ℕ → List ℕ → ℕ
number_in c l = min (read_on 0 (digits_in c l)) 4294967295

-- lines-5: the only call that a line can be the line of (`LineIsRight`)
unfoldable pub call_in : List ℕ → Call
call_in l = call (code_in l) (number_in (code_in l) l)

-- aid: two lists are the same
unfoldable pub same_list : List ℕ → List ℕ → Bool
same_list [] [] = true
same_list [] (y ∷ ys) = false
same_list (x ∷ xs) [] = false
same_list (x ∷ xs) (y ∷ ys) = eqb x y && same_list xs ys

-- lines-1, lines-3, refusal-22: a line is of the form if it is, byte by byte, the line of the call that it is read as,
-- and that call's code and number are those of a trip file. Law: such a line is the line of some call, and each such
-- call's line is of the form (`RightIsLine`, `LineIsRight`)
unfoldable pub right_line : List ℕ → Bool
right_line l = call_right (call_in l) && same_list l (line (call_in l))

-- aid: name, comma, the bytes of a line that may be digits, line feed
unfoldable pub framed_as : ℕ → List ℕ → List ℕ
framed_as c l = heading c ++ (digits_in c l ++ ascii "\n")
