-- What a put and then a get of the same key are answered, and two gets of one pass.
use Rattle.std.specs.Prelude.{[], ◌++◌, ◌∷◌, ◌≡◌, List, Some, true, ℕ}
use Rattle.vm_map.specs.{declared.call.Call.TheVariants.Get, declared.call.Call.TheVariants.Put, declared.call.Reply.Reply}
use Rattle.vm_map.specs.{declared.call.Reply.TheVariants.Got, declared.call.Said.Said}
use Rattle.vm_rule.specs.Prelude.{Entry, entry_of}
use Rattle.vm_step.specs.Prelude.{View}

-- What is said may speak of keys in its own way; `plain` reads it with a number for each key, as the call with its reply
module _ {S : Type 0} (plain : S → Said) where
  -- Both calls are entries of the history, in this order; and where no entry stands between them, and blocks tell
  -- their words, the get is answered
  -- the value that was put
  pub record AnswersPut (key value : ℕ) (reply : Reply) (v w : View S) : Type 0 where
    pub before : List (Entry S)
    pub put : Entry S
    pub between : List (Entry S)
    pub get : Entry S
    pub seen : w.seen ≡ ((before ++ put ∷ []) ++ between) ++ get ∷ []
    pub put_is : (plain put.said).call ≡ Put key value
    pub get_is : plain get.said ≡ record { call = Get key; reply = reply }
    pub answer : v.start.tells ≡ true → between ≡ [] → reply ≡ Got (Some value)

  -- two gets of the key, with these replies, are the pass's next entries, the second one of a pass that had the first
  pub record HasGotTwice (key : ℕ) (one two : Reply) (v w : View S) : Type 0 where
    pub first : S
    pub second : S
    pub then : View S
    pub first_is : plain first ≡ record { call = Get key; reply = one }
    pub second_is : plain second ≡ record { call = Get key; reply = two }
    pub between : then.mine ≡ v.mine ++ entry_of v first ∷ []
    pub mine : w.mine ≡ (v.mine ++ entry_of v first ∷ []) ++ entry_of then second ∷ []
