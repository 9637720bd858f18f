mod LawfulBundles
