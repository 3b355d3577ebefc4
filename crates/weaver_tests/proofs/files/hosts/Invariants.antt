use Rattle.std.proofs.Common.{◌≡◌, [], ◌∷◌, ◌++◌, take}
use Rattle.std.specs.List.{flat_map, repeat}
use Rattle.weaver_tests.specs.Files.{method_of}
use Rattle.weaver_tests.proofs.files.hosts.Given as goal

abbrev pub invariant-loop-hosts : goal.invariant-loop-hosts
invariant-loop-hosts l =
    l.file.items ≡ (1 ∷ 0 ∷ 2 ∷ 1 ∷ l.count ∷ 2 ∷ 0 ∷ l.threads ∷ [])
    ++ (repeat l.threads (0 ∷ []) ++ ((3 ∷ 0 ∷ 0 ∷ []) ++ flat_map method_of (take l.hosts-index l.methods)))
