use Rattle.std.proofs.Common.{◌≡◌, length, refl, arith}
use Rattle.ods_index.proofs.LinkLaws.{object_kept, object_named, object_placed}
use Rattle.ods_index.proofs.links.+scopes.Goals as goal

pub add_object-returns-clause-kept : goal.add_object-returns-clause-kept
add_object-returns-clause-kept t c =
    object_kept c.args.node.now c.args.scopes.now.items c.add_objects.new.scopes.items c.push.new.self.items c.in_ok-scope.scope
    c.in_ok-scope.ensures c.in_ok-push.ensures.items
    c.in_ok-children.ensures.kept

pub add_object-returns-clause-placed : goal.add_object-returns-clause-placed
add_object-returns-clause-placed t c =
    let place : c.len-place.result ≡ length c.add_objects.new.scopes.items = omega (arith, c.len-place.ensures, c.add_objects.new.scopes.ok.0) in
    object_placed c.args.node.now c.add_objects.new.scopes.items c.push.new.self.items c.in_ok-scope.scope c.len-place.result
    c.in_ok-scope.ensures c.in_ok-push.ensures.items place

pub add_object-returns-clause-named : goal.add_object-returns-clause-named
add_object-returns-clause-named t c =
    let place : c.len-place.result ≡ length c.add_objects.new.scopes.items = omega (arith, c.len-place.ensures, c.add_objects.new.scopes.ok.0) in
    object_named c.args.node.now c.args.scopes.now.items c.add_objects.new.scopes.items c.push.new.self.items c.in_ok-scope.scope
    c.args.names.now c.add_objects.new.names c.put.new.self
    c.as_slice.result.now _ c.len-place.result c.in_ok-scope.ensures c.in_ok-push.ensures.items place c.as_slice.ensures.value refl
    c.in_ok-children.ensures.named c.in_ok-put.ensures.put
